use Rattle.lines.proofs.Chained.{message-text}
use Rattle.lines.proofs.line.message.Goals as goal

pub returns : goal.returns
returns c = search message-text
