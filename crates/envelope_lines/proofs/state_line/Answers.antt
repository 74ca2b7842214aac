use Rattle.std.proofs.Common.{◌∙◌, ap}
use Rattle.std.proofs.lemmas.Option.{unwrap_or-slice_get}
use Rattle.std.specs.Prelude.{unwrap_or}
use Rattle.envelope_lines.proofs.Chains.{absent-is, there-is, state-absent, state-there}
use Rattle.envelope_lines.proofs.state_line.Goals as goal

pub returns-then-is_none : goal.returns-then-is_none
returns-then-is_none c = state-absent _ _ _ (absent-is _ _ c.is_none.ensures c.if-is_none.true)

pub returns : goal.returns
returns c =
    state-there _ _ _ _ _ (there-is _ _ c.is_none.ensures c.if-is_none.false _ _ c.octets.ensures) _ _
    (c.from.ensures ∙ c.unwrap_or-first.ensures ∙ ap (λ (o : _). unwrap_or o 0) (c.copied.ensures ∙ c.first.ensures.value)
    ∙ unwrap_or-slice_get c.octets.result.now 0 0) c.field-state_end.ensures c.append.ensures
