use Rattle.message.proofs.Bodies.{exchanges}
use Rattle.message.proofs.exchange.check.Goals as goal

pub returns-then-not-keeps_rule : goal.returns-then-not-keeps_rule
returns-then-not-keeps_rule c = search exchanges

pub returns : goal.returns
returns c = search exchanges
