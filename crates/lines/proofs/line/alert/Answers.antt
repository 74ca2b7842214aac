use Rattle.lines.proofs.Chained.{alert-text}
use Rattle.lines.proofs.line.alert.Goals as goal

pub returns : goal.returns
returns c = search alert-text
