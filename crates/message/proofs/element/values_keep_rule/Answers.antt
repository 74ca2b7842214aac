use Rattle.message.proofs.Elements.{elements}
use Rattle.message.proofs.element.values_keep_rule.Goals as goal

pub returns-then-not-keeps_rule : goal.returns-then-not-keeps_rule
returns-then-not-keeps_rule c = search elements

pub loop-i-preserved : goal.loop-i-preserved
loop-i-preserved c = search elements

pub returns : goal.returns
returns c = search elements
