use Rattle.lines.proofs.Chained.{scheme-text}
use Rattle.lines.proofs.line.scheme.Goals as goal

pub returns : goal.returns
returns c = search scheme-text
