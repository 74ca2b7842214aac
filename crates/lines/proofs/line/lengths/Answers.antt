use Rattle.lines.proofs.Chained.{lengths-text}
use Rattle.lines.proofs.line.lengths.Goals as goal

pub returns : goal.returns
returns c = search lengths-text
