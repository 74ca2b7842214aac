use Rattle.std.proofs.Common.{refl}
use Rattle.der.specs.Element.{cut, any}
use Rattle.der.specs.Holder.{part}
use Rattle.der.proofs.Answers.{passed-on}
use Rattle.der.proofs.Framing.{cut_by_lem}
use Rattle.der.proofs.cut_at.Goals as goal

pub returns-in_err-element : goal.returns-in_err-element
unfolding cut
returns-in_err-element c = passed-on c.frame_at.ensures _ c.in_err-element.was _ _ c.from_residual.ensures.1

pub returns : goal.returns
unfolding part
returns c = cut_by_lem _ _ _ c.requires _ _ c.frame_at.ensures c.in_ok-element.was any _ refl _ c.judged.ensures
