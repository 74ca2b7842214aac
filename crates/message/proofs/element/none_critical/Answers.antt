use Rattle.message.proofs.Elements.{elements}
use Rattle.message.proofs.element.none_critical.Goals.{else-loop-i-test, then-loop-i-test+then-is_negative}
use Rattle.message.proofs.element.none_critical.Goals as goal

pub loop-i-preserved : goal.loop-i-preserved
loop-i-preserved c = search elements

pub returns : goal.returns
returns c = elim c.loop-i-test.branch [ else-loop-i-test w ↦ search elements | then-loop-i-test+then-is_negative w ↦ search elements ]
