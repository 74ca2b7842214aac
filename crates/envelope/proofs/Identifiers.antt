-- The list of mechanism identifiers, written and read.
-- Assumes nothing.
use Prim.Native.Nat.{ℕ, zero, suc, ◌<◌, ◌≤◌}
use mathlib.Core.Path.{◌≡◌, refl, ap, ◌∙◌}
use mathlib.Core.Bool.{true, false}
use mathlib.Core.List.{List, [], ◌∷◌, ◌++◌}
use mathlib.Core.Logic.{◌⊎◌, inl, inr}
use native.Mathlib.Omega.{arith}
use lib.ListN.{length, length-append}
use Rattle.octets.proofs.Bools.{which}
use Rattle.der.specs.Got.{ok, check}
use Rattle.der.specs.Element.{element, cut, any}
use Rattle.der.proofs.Gots.{no_ok, bind_ok, check-ok}
use Rattle.der.proofs.Cuts.{cut-back, cut-forth}
use Rattle.der.proofs.Nesting.{Forth, Back, longer}
use Rattle.envelope.specs.Envelope.{identifiers}
use Rattle.envelope.specs.Reading.{filled, identifiers_of, list_of}

pub filled-false : (s : List ℕ) → filled s ≡ false → s ≡ []
unfolding filled
filled-false [] e = refl
filled-false (x ∷ s) e = let z : ◌≡◌ {A = ℕ} 0 1 = cc in absurd (omega arith)

filled-element : (t : ℕ) (c r : List ℕ) → filled (element t c ++ r) ≡ true
unfolding filled element
filled-element t c r = refl

pub identifiers-forth : (k : ℕ) (s : List ℕ) (ms : List (List ℕ)) → identifiers_of k s ≡ ok ms → (s ≡ identifiers ms) × (length ms ≤ k)
unfolding identifiers_of identifiers
identifiers-forth zero s ms e = go (which (filled s)) where
  go : (filled s ≡ true) ⊎ (filled s ≡ false) → (s ≡ identifiers ms) × (length ms ≤ 0)
  go (inl b) = let (q, e1, e2) = bind_ok (cut 0x06 any s) _ ms (rw b at e) in no_ok 23 ms e2
  go (inr b) = let is : [] ≡ ms = cc (rw b at e) in rw (← is) (filled-false s b, omega arith)
identifiers-forth (suc k) s ms e = go (which (filled s)) (λ s' ms'. identifiers-forth k s' ms') where
  go : (filled s ≡ true) ⊎ (filled s ≡ false)
      → ((s' : List ℕ) (ms' : List (List ℕ)) → identifiers_of k s' ≡ ok ms' → (s' ≡ identifiers ms') × (length ms' ≤ k))
      → (s ≡ identifiers ms) × (length ms ≤ suc k)
  go (inl b) f =
      let (q, e1, e2) = bind_ok (cut 0x06 any s) _ ms (rw b at e) in
      let (l, e3, e4) = bind_ok (identifiers_of k q.rest) _ ms e2 in
      let is : q.value ∷ l ≡ ms = cc in
      let (rest-is, few) = f q.rest l e3 in
      let (s-is, right) = cut-forth 0x06 any s q e1 in
      rw (← is) (s-is ∙ ap (λ (x : List ℕ). element 0x06 q.value ++ x) rest-is, omega arith)
  go (inr b) f = let is : [] ≡ ms = cc (rw b at e) in rw (← is) (filled-false s b, omega arith)

pub identifiers-back : (k : ℕ) (ms : List (List ℕ)) → length ms ≤ k → length (identifiers ms) ≤ 65535 → identifiers_of k (identifiers ms) ≡ ok ms
unfolding identifiers_of identifiers filled
identifiers-back zero [] h short = refl
identifiers-back zero (m ∷ ms) h short = absurd (omega arith)
identifiers-back (suc k) [] h short = refl
identifiers-back (suc k) (m ∷ ms) h short =
    let l : length m ≤ 65535 = omega (arith, longer 0x06 m, length-append (element 0x06 m) (identifiers ms)) in
    let r : length (identifiers ms) ≤ 65535 = omega (arith, length-append (element 0x06 m) (identifiers ms)) in
    rw (filled-element 0x06 m (identifiers ms), cut-back 0x06 any m (identifiers ms) l refl, identifiers-back k ms (omega arith) r)

-- 1 to 16 of them
abbrev pub Some : List (List ℕ) → Type 0
Some ms = (0 < length ms) × (length ms ≤ 16)

pub list-forth : Forth any list_of identifiers Some
unfolding list_of filled identifiers
list-forth s ms h e =
    let (f, e1) = check-ok (filled s) 20 (identifiers_of 16 s) ms e in
    let (is, few) = identifiers-forth 16 s ms e1 in
    (is, (some ms (rw is at f), few)) where
      some : (ms : List (List ℕ)) → filled (identifiers ms) ≡ true → 0 < length ms
      some [] h = let z : ◌≡◌ {A = ℕ} 0 1 = cc in absurd (omega arith)
      some (m ∷ ms) h = omega arith

pub list_back : Back list_of identifiers Some
unfolding list_of check identifiers
list_back [] h short = absurd (omega arith)
list_back (m ∷ ms) h short = rw (filled-element 0x06 m (identifiers ms)) (identifiers-back 16 (m ∷ ms) h.1 short)
