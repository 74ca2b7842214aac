use Rattle.lines.proofs.Chained.{refused-text}
use Rattle.lines.proofs.line.refused.Goals as goal

pub returns : goal.returns
returns c = search refused-text
