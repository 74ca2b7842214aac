use Rattle.message.proofs.Bodies.{negos}
use Rattle.message.proofs.nego.check.Goals as goal

pub returns-then-le_u64-ne0 : goal.returns-then-le_u64-ne0
returns-then-le_u64-ne0 c = search negos

pub returns-then-not-keeps_rule : goal.returns-then-not-keeps_rule
returns-then-not-keeps_rule c = search negos

pub returns-then-not-keeps_rule-2 : goal.returns-then-not-keeps_rule-2
returns-then-not-keeps_rule-2 c = search negos

pub returns-then-not-values_keep_rule : goal.returns-then-not-values_keep_rule
returns-then-not-values_keep_rule c = search negos

pub returns-then-not-none_critical : goal.returns-then-not-none_critical
returns-then-not-none_critical c = search negos

pub returns : goal.returns
returns c = search negos
