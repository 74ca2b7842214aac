use Rattle.tally_lines.proofs.Chained.{number-line}
use Rattle.tally_lines.proofs.number_line.Goals as goal

pub returns : goal.returns
returns c = search number-line
