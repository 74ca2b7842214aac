use Rattle.lines.proofs.Chained.{exchange-text}
use Rattle.lines.proofs.line.exchange.Goals as goal

pub returns : goal.returns
returns c = search exchange-text
