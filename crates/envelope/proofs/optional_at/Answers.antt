use Rattle.std.proofs.Common.{rules}
use Rattle.envelope.proofs.Holders.{holder_in}
use Rattle.envelope.proofs.Optionals.{option-inner-no, option-left, option-found, options}
use Rattle.envelope.proofs.optional_at.Goals as goal

pub returns-then-not-starts_at : goal.returns-then-not-starts_at
returns-then-not-starts_at g c = λ u p by. search (rules, options)

pub returns-in_err-field : goal.returns-in_err-field
returns-in_err-field g c = λ u p by. search (rules, options)

pub returns-in_err-contents : goal.returns-in_err-contents
returns-in_err-contents g c = λ u p by.
    option-inner-no _ _ _ u p c.requires.inside _ c.starts_at.ensures c.if-not-starts_at.false _ c.cut_at.ensures _ _ c.in_ok-field.was _
    (by c.in_ok-field.field _ (holder_in _ _ c.cut_at.ensures _ _ c.in_ok-field.was c.requires.inside) c.cut.ensures)
    _ c.in_err-contents.was _ c.from_residual-in_err-contents.ensures.1

pub returns-then-rest : goal.returns-then-rest
returns-then-rest g c = λ u p by.
    option-left _ _ _ u p c.requires.inside _ c.starts_at.ensures c.if-not-starts_at.false _ c.cut_at.ensures _ _ c.in_ok-field.was _
    (by c.in_ok-field.field _ (holder_in _ _ c.cut_at.ensures _ _ c.in_ok-field.was c.requires.inside) c.cut.ensures)
    _ _ c.in_ok-contents.was c.if-rest.true

pub returns : goal.returns
returns g c = λ u p by.
    option-found _ _ _ u p c.requires.inside _ c.starts_at.ensures c.if-not-starts_at.false _ c.cut_at.ensures _ _ c.in_ok-field.was _
    (by c.in_ok-field.field _ (holder_in _ _ c.cut_at.ensures _ _ c.in_ok-field.was c.requires.inside) c.cut.ensures)
    _ _ c.in_ok-contents.was c.if-rest.false
