use Rattle.envelope.proofs.Lists.{list-outer-no, list-inner-no, list-refused, list_left, list-found}
use Rattle.envelope.proofs.mechanisms_at.Goals as goal

pub returns-in_err-sequence : goal.returns-in_err-sequence
returns-in_err-sequence c = list-outer-no _ _ c.requires _ c.cut_at.ensures _ c.in_err-sequence.was _ c.from_residual.ensures.1

pub returns-in_err-list : goal.returns-in_err-list
returns-in_err-list c =
    list-inner-no _ _ c.requires _ c.cut_at.ensures _ _ c.in_ok-sequence.was _ c.cut_at-2.ensures _ c.in_err-list.was _ c.from_residual-in_err-list.ensures.1

pub returns-in_err-count : goal.returns-in_err-count
returns-in_err-count c =
    list-refused _ _ c.requires _ c.cut_at.ensures _ _ c.in_ok-sequence.was _ c.cut_at-2.ensures _ _ c.in_ok-list.was _ c.identifiers_at.ensures _
    c.in_err-count.was _ c.from_residual-in_err-count.ensures.1

pub returns-then-rest : goal.returns-then-rest
returns-then-rest c =
    list_left _ _ c.requires _ c.cut_at.ensures _ _ c.in_ok-sequence.was _ c.cut_at-2.ensures _ _ c.in_ok-list.was _ c.identifiers_at.ensures _
    c.in_ok-count.was c.if-rest.true

pub returns : goal.returns
returns c =
    list-found _ _ c.requires _ c.cut_at.ensures _ _ c.in_ok-sequence.was _ c.cut_at-2.ensures _ _ c.in_ok-list.was _ c.identifiers_at.ensures _
    c.in_ok-count.was c.if-rest.false
