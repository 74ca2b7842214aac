use Rattle.std.proofs.Common.{rules}
use Rattle.envelope.specs.Envelope.{is_state}
use Rattle.envelope.proofs.Sequences.{resp-other, resp-no, resp-behind, resp-tail-no, resp-found}
use Rattle.envelope.proofs.resp_fields.Goals as goal

pub returns-then-not-begins_at : goal.returns-then-not-begins_at
returns-then-not-begins_at c = resp-other _ _ _ c.begins_at.ensures c.if-not-begins_at.true

pub returns-in_err-state : goal.returns-in_err-state
returns-in_err-state c =
    resp-no _ _ _ c.begins_at.ensures c.if-not-begins_at.false _ (c.optional_at.ensures 0x0A is_state (λ h r k q. search rules)) _ c.in_err-state.was _
    c.from_residual.ensures.1

pub tail_at-requires : goal.tail_at-requires
tail_at-requires c =
    resp-behind _ _ _ c.begins_at.ensures c.if-not-begins_at.false _ (c.optional_at.ensures 0x0A is_state (λ h r k q. search rules)) _ _ c.in_ok-state.was

pub returns-in_err-tail : goal.returns-in_err-tail
returns-in_err-tail c =
    resp-tail-no _ _ _ c.begins_at.ensures c.if-not-begins_at.false _ (c.optional_at.ensures 0x0A is_state (λ h r k q. search rules)) _ _ c.in_ok-state.was _
    c.tail_at.ensures _ c.in_err-tail.was _ c.from_residual-in_err-tail.ensures.1

pub returns : goal.returns
returns c =
    resp-found _ _ _ c.begins_at.ensures c.if-not-begins_at.false _ (c.optional_at.ensures 0x0A is_state (λ h r k q. search rules)) _ _ c.in_ok-state.was _
    c.tail_at.ensures _ c.in_ok-tail.was
