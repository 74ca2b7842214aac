use Rattle.tally_lines.proofs.Chained.{octet-lines}
use Rattle.tally_lines.proofs.octet_lines.Goals as goal

pub returns : goal.returns
returns c = search octet-lines
