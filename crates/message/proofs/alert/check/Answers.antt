use Rattle.message.proofs.Bodies.{alerts}
use Rattle.message.proofs.alert.check.Goals as goal

pub returns-then-not-keeps_rule : goal.returns-then-not-keeps_rule
returns-then-not-keeps_rule c = search alerts

pub returns-then-not-values_keep_rule : goal.returns-then-not-values_keep_rule
returns-then-not-values_keep_rule c = search alerts

pub returns : goal.returns
returns c = search alerts
