use Rattle.elements.proofs.Limits.{offset-none, offset-some}
use Rattle.elements.proofs.offset_of.Goals as goal

pub returns-then-size-eq0 : goal.returns-then-size-eq0
returns-then-size-eq0 c = offset-none _ _ c.if-size-eq0.true

pub returns-else-size-eq0 : goal.returns-else-size-eq0
returns-else-size-eq0 c = offset-some _ _ c.if-size-eq0.false
