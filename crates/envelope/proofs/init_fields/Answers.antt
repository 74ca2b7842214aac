use Rattle.envelope.proofs.Sequences.{init-no, init-behind, init-tail-no, init-found}
use Rattle.envelope.proofs.init_fields.Goals as goal

pub returns-in_err-list : goal.returns-in_err-list
returns-in_err-list c = init-no _ _ _ c.mechanisms_at.ensures _ c.in_err-list.was _ c.from_residual.ensures.1

pub tail_at-requires : goal.tail_at-requires
tail_at-requires c = init-behind _ _ _ c.mechanisms_at.ensures _ _ _ c.in_ok-list.was

pub returns-in_err-tail : goal.returns-in_err-tail
returns-in_err-tail c =
    init-tail-no _ _ _ c.mechanisms_at.ensures _ _ _ c.in_ok-list.was _ c.tail_at.ensures _ c.in_err-tail.was _ c.from_residual-in_err-tail.ensures.1

pub returns : goal.returns
returns c = init-found _ _ _ c.mechanisms_at.ensures _ _ _ c.in_ok-list.was _ c.tail_at.ensures _ c.in_ok-tail.was
