use mathlib.Core.Path.{refl}
use lib.Dec.{eqb}
use lib.Pointwise.{pointwise}
use Rattle.text.specs.Text.{quoted}
use Rattle.script.proofs.Lines.{place_verbs, choose-or-none}
use Rattle.script.proofs.named.Goals as goal

pub returns-then-eq-2 : goal.returns-then-eq-2
returns-then-eq-2 c =
    let e1 = rw c.as_slice.ensures at c.if-eq.ensures in
    let e2 = rw c.as_slice-else-eq.ensures at c.if-eq-2.ensures in
    rw (place_verbs c.args.word.now, ← e1, ← e2) refl

pub returns-then-eq-3 : goal.returns-then-eq-3
returns-then-eq-3 c =
    let e1 = rw c.as_slice.ensures at c.if-eq.ensures in
    let e2 = rw c.as_slice-else-eq.ensures at c.if-eq-2.ensures in
    let e3 = rw c.as_slice-else-eq-2.ensures at c.if-eq-3.ensures in
    rw (place_verbs c.args.word.now, ← e1, ← e2, ← e3) refl

pub returns-then-eq-4 : goal.returns-then-eq-4
returns-then-eq-4 c =
    let e1 = rw c.as_slice.ensures at c.if-eq.ensures in
    let e2 = rw c.as_slice-else-eq.ensures at c.if-eq-2.ensures in
    let e3 = rw c.as_slice-else-eq-2.ensures at c.if-eq-3.ensures in
    let e4 = rw c.as_slice-else-eq-3.ensures at c.if-eq-4.ensures in
    rw (place_verbs c.args.word.now, ← e1, ← e2, ← e3, ← e4) refl

pub returns-then-eq-5 : goal.returns-then-eq-5
returns-then-eq-5 c =
    let e1 = rw c.as_slice.ensures at c.if-eq.ensures in
    let e2 = rw c.as_slice-else-eq.ensures at c.if-eq-2.ensures in
    let e3 = rw c.as_slice-else-eq-2.ensures at c.if-eq-3.ensures in
    let e4 = rw c.as_slice-else-eq-3.ensures at c.if-eq-4.ensures in
    let e5 = rw c.as_slice-else-eq-4.ensures at c.if-eq-5.ensures in
    rw (place_verbs c.args.word.now, ← e1, ← e2, ← e3, ← e4, ← e5) refl

pub returns-then-eq-6 : goal.returns-then-eq-6
returns-then-eq-6 c =
    let e1 = rw c.as_slice.ensures at c.if-eq.ensures in
    let e2 = rw c.as_slice-else-eq.ensures at c.if-eq-2.ensures in
    let e3 = rw c.as_slice-else-eq-2.ensures at c.if-eq-3.ensures in
    let e4 = rw c.as_slice-else-eq-3.ensures at c.if-eq-4.ensures in
    let e5 = rw c.as_slice-else-eq-4.ensures at c.if-eq-5.ensures in
    let e6 = rw c.as_slice-else-eq-5.ensures at c.if-eq-6.ensures in
    rw (place_verbs c.args.word.now, ← e1, ← e2, ← e3, ← e4, ← e5, ← e6) refl

pub returns-then-eq-7 : goal.returns-then-eq-7
returns-then-eq-7 c =
    let e1 = rw c.as_slice.ensures at c.if-eq.ensures in
    let e2 = rw c.as_slice-else-eq.ensures at c.if-eq-2.ensures in
    let e3 = rw c.as_slice-else-eq-2.ensures at c.if-eq-3.ensures in
    let e4 = rw c.as_slice-else-eq-3.ensures at c.if-eq-4.ensures in
    let e5 = rw c.as_slice-else-eq-4.ensures at c.if-eq-5.ensures in
    let e6 = rw c.as_slice-else-eq-5.ensures at c.if-eq-6.ensures in
    let e7 = rw c.as_slice-else-eq-6.ensures at c.if-eq-7.ensures in
    rw (place_verbs c.args.word.now, ← e1, ← e2, ← e3, ← e4, ← e5, ← e6, ← e7) refl

pub returns-else-eq-7 : goal.returns-else-eq-7
returns-else-eq-7 c =
    let e1 = rw c.as_slice.ensures at c.if-eq.ensures in
    let e2 = rw c.as_slice-else-eq.ensures at c.if-eq-2.ensures in
    let e3 = rw c.as_slice-else-eq-2.ensures at c.if-eq-3.ensures in
    let e4 = rw c.as_slice-else-eq-3.ensures at c.if-eq-4.ensures in
    let e5 = rw c.as_slice-else-eq-4.ensures at c.if-eq-5.ensures in
    let e6 = rw c.as_slice-else-eq-5.ensures at c.if-eq-6.ensures in
    let e7 = rw c.as_slice-else-eq-6.ensures at c.if-eq-7.ensures in
    rw (place_verbs c.args.word.now, ← e1, ← e2, ← e3, ← e4, ← e5, ← e6, ← e7) (choose-or-none (pointwise eqb c.args.word.now (quoted "choose")))
