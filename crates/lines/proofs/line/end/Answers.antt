use Rattle.lines.proofs.Chained.{end-text}
use Rattle.lines.proofs.line.end.Goals as goal

pub returns : goal.returns
returns c = search end-text
