use mathlib.Core.Path.{refl}
use Rattle.script.proofs.Lines.{command-open-bad, command-open, command-nowhere, command-choose, command-nothing, command-call}
use Rattle.script.specs.Grammar.{bad_line}
use Rattle.script.proofs.read_command.Goals as goal

pub returns-in_err-is_acceptor : goal.returns-in_err-is_acceptor
returns-in_err-is_acceptor c =
    let b = rw c.as_slice.ensures at c.if-eq.ensures in
    rw c.from_residual.ensures
    (command-open-bad _ _ _ c.behind-at.ensures.fields c.behind-from.ensures.fields _ _ c.field-word.ensures c.field-next.ensures _ b _ bad_line refl
    c.in_err-is_acceptor.ensures)

pub returns-then-eq : goal.returns-then-eq
returns-then-eq c =
    let b = rw c.as_slice.ensures at c.if-eq.ensures in
    command-open _ _ _ c.behind-at.ensures.fields c.behind-from.ensures.fields _ _ c.field-word.ensures c.field-next.ensures _ b _ _ refl _
    c.in_ok-is_acceptor.ensures c.with_number.ensures

pub returns-in_err-acceptor : goal.returns-in_err-acceptor
returns-in_err-acceptor c =
    let b = rw c.as_slice.ensures at c.if-eq.ensures in
    rw c.from_residual-in_err-acceptor.ensures
    (command-nowhere _ _ _ c.behind-at.ensures.fields c.behind-from.ensures.fields _ _ c.field-word.ensures c.field-next.ensures _ b _ bad_line refl
    c.in_err-acceptor.ensures)

pub returns-then-eq-2 : goal.returns-then-eq-2
returns-then-eq-2 c =
    let b = rw c.as_slice.ensures at c.if-eq.ensures in
    let o = rw c.as_slice-2.ensures at c.if-eq-2.ensures in
    command-choose _ _ _ c.behind-at.ensures.fields c.behind-from.ensures.fields _ _ c.field-word.ensures c.field-next.ensures _ b _ _ refl _
    c.in_ok-acceptor.ensures _ o refl c.choice.ensures

pub returns-in_err-verb_of : goal.returns-in_err-verb_of
returns-in_err-verb_of c =
    let b = rw c.as_slice.ensures at c.if-eq.ensures in
    let o = rw c.as_slice-2.ensures at c.if-eq-2.ensures in
    rw c.from_residual-in_err-verb_of.ensures
    (command-nothing _ _ _ c.behind-at.ensures.fields c.behind-from.ensures.fields _ _ c.field-word.ensures c.field-next.ensures _ b _ bad_line refl _
    c.in_ok-acceptor.ensures _ o refl c.in_err-verb_of.ensures)

pub returns : goal.returns
returns c =
    let b = rw c.as_slice.ensures at c.if-eq.ensures in
    let o = rw c.as_slice-2.ensures at c.if-eq-2.ensures in
    command-call _ _ _ c.behind-at.ensures.fields c.behind-from.ensures.fields _ _ c.field-word.ensures c.field-next.ensures _ b _ _ refl _
    c.in_ok-acceptor.ensures _ o refl _ c.in_ok-verb_of.ensures c.with_number-2.ensures
