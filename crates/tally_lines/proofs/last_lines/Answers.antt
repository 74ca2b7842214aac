use Rattle.tally_lines.proofs.Chained.{last-lines}
use Rattle.tally_lines.proofs.last_lines.Goals as goal

pub returns : goal.returns
returns c = search last-lines
