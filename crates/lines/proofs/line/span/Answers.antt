use Rattle.lines.proofs.Chained.{span-text}
use Rattle.lines.proofs.line.span.Goals as goal

pub returns : goal.returns
returns c = search span-text
