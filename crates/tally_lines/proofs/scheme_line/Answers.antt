use Rattle.tally_lines.proofs.Chained.{scheme-line}
use Rattle.tally_lines.proofs.scheme_line.Goals as goal

pub returns : goal.returns
returns c = search scheme-line
