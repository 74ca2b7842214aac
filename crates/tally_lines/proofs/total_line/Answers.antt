use Rattle.tally_lines.proofs.Chained.{total-line}
use Rattle.tally_lines.proofs.total_line.Goals as goal

pub returns : goal.returns
returns c = search total-line
