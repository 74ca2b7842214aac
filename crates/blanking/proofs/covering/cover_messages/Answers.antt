use Rattle.std.proofs.Common.{rules, refl}
use Rattle.blanking.proofs.Masks.{masks}
use Rattle.blanking.proofs.covering.cover_messages.Goals as goal

pub loop-at-init : goal.loop-at-init
loop-at-init c = (refl, refl, search masks)

pub slice_bounds-mark_message-end : goal.slice_bounds-mark_message-end
slice_bounds-mark_message-end c = search masks

pub mark_message-kind-requires : goal.mark_message-kind-requires
mark_message-kind-requires c = search masks

pub loop-at-smaller : goal.loop-at-smaller
loop-at-smaller c = search masks

pub loop-at-preserved : goal.loop-at-preserved
loop-at-preserved c = (search rules, search rules, search masks)

pub returns : goal.returns
returns c = search masks
