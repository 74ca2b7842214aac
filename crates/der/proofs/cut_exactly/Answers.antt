use Rattle.std.proofs.Common.{◌∙◌}
use Rattle.der.specs.Element.{cut, exactly}
use Rattle.der.specs.Holder.{part}
use Rattle.der.proofs.Answers.{passed-on}
use Rattle.octets.proofs.Same.{compared}
use Rattle.der.proofs.Framing.{cut_by_lem}
use Rattle.der.proofs.cut_exactly.Goals as goal

pub returns-in_err-element : goal.returns-in_err-element
unfolding cut
returns-in_err-element c = passed-on c.frame_at.ensures _ c.in_err-element.was _ _ c.from_residual.ensures.1

pub returns : goal.returns
unfolding part
returns c = cut_by_lem _ _ _ c.requires _ _ c.frame_at.ensures c.in_ok-element.was (exactly c.args.v.now) _ (c.eq.ensures ∙ compared _ _) _ c.judged.ensures
