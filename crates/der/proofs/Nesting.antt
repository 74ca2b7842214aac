-- Elements in elements, written and read.
-- Assumes nothing.
use Prim.Native.Nat.{ℕ, ◌<◌, ◌≤◌}
use mathlib.Core.Path.{◌≡◌, refl, ap, ◌∙◌}
use mathlib.Core.Bool.{Bool, true, false}
use mathlib.Core.List.{List, [], ◌++◌, append-nil}
use mathlib.Core.Option.{Option, none, some}
use mathlib.Core.Logic.{◌⊎◌, inl, inr}
use native.Mathlib.Omega.{arith}
use lib.ListN.{length, length-append}
use borrow.Author.Tests.{eq-eqb, ne_eqb}
use Rattle.octets.proofs.Bools.{which}
use Rattle.der.specs.Got.{Got, ok}
use Rattle.der.specs.Element.{element, cut, Part, any}
use Rattle.der.specs.Grammar.{closed, within, only, starts, field, optional, field_octets}
use Rattle.der.proofs.Gots.{bind_ok, closed-ok}
use Rattle.der.proofs.Cuts.{cut-back, cut-forth}

-- an element is longer than its contents
pub longer : (t : ℕ) (c : List ℕ) → length c < length (element t c)
unfolding element
longer t c = simp length-append (omega arith)

-- a reading and a writing of the same thing: what is read is what is written, and G holds of it; what G holds of and is short enough reads back
abbrev pub Forth : {A : Type 0} → (List ℕ → Bool) → (List ℕ → Got A) → (A → List ℕ) → (A → Type 0) → Type 0
Forth {A} p body w G = (c : List ℕ) (a : A) → p c ≡ true → body c ≡ ok a → (c ≡ w a) × G a

abbrev pub Back : {A : Type 0} → (List ℕ → Got A) → (A → List ℕ) → (A → Type 0) → Type 0
Back {A} body w G = (a : A) → G a → length (w a) ≤ 65535 → body (w a) ≡ ok a

module _ {A : Type 0} (t : ℕ) (p : List ℕ → Bool) (body : List ℕ → Got A) (w : A → List ℕ) (G : A → Type 0) where
  pub within-forth : Forth p body w G → (s : List ℕ) (q : Part A) → within t p body s ≡ ok q
      → (s ≡ element t (w q.value) ++ q.rest) × G q.value
  unfolding within
  within-forth f s q e =
      let (c, e1, e2) = bind_ok (cut t p s) _ q e in
      let (a, e3, e4) = bind_ok (body c.value) _ q e2 in
      let is : record { value = a; rest = c.rest } ≡ q = cc in
      let (s-is, right) = cut-forth t p s c e1 in
      let (c-is, good) = f c.value a right e3 in
      rw (← is) (s-is ∙ ap (λ (x : List ℕ). element t x ++ c.rest) c-is, good)

  pub only-forth : Forth p body w G → Forth any (only t p body) (λ a. element t (w a)) G
  unfolding only
  only-forth f s a h e =
      let (q, e1, e2) = bind_ok (within t p body s) _ a e in
      let (end, is) = closed-ok q.rest q.value a e2 in
      let (s-is, good) = within-forth f s q e1 in
      rw (← is) (s-is ∙ rw (end, append-nil), good)

  pub within-back : Back body w G → ((a : A) → G a → p (w a) ≡ true) → (a : A) (r : List ℕ) → G a → length (element t (w a) ++ r) ≤ 65535
      → within t p body (element t (w a) ++ r) ≡ ok (record { value = a; rest = r })
  unfolding within
  within-back b right a r good short =
      let h : length (w a) ≤ 65535 = omega (arith, longer t (w a), length-append (element t (w a)) r) in
      rw (cut-back t p (w a) r h (right a good), b a good h)

  pub only-back : Back body w G → ((a : A) → G a → p (w a) ≡ true) → Back (only t p body) (λ a. element t (w a)) G
  unfolding only closed
  only-back b right a good short =
      let e : within t p body (element t (w a)) ≡ ok (record { value = a; rest = [] }) =
      rw append-nil at (within-back b right a [] good (rw append-nil short)) in
      rw e

-- an element that may be missing
module _ (t u : ℕ) (p : List ℕ → Bool) where
  abbrev pub Suits : Option (List ℕ) → Type 0
  Suits none = Unit {0}
  Suits (some c) = p c ≡ true

  some_of : Option (List ℕ) → List ℕ
  some_of none = []
  some_of (some c) = c

  abbrev Is : Option (List ℕ) → Type 0
  Is none = ⊥
  Is (some c) = p c ≡ true

  leaf-forth : Forth p (λ c. ok (some c)) some_of Is
  unfolding some_of
  leaf-forth c none h e = let z : some c ≡ none = cc in let y : ◌≡◌ {A = ℕ} 0 1 = cc in absurd (omega arith)
  leaf-forth c (some d) h e = let z : c ≡ d = cc in (z, rw z at h)

  leaf-back : Back (λ c. ok (some c)) some_of Is
  unfolding some_of
  leaf-back none h k = absurd h
  leaf-back (some c) h k = refl

  leaf-right : (a : Option (List ℕ)) → Is a → p (some_of a) ≡ true
  unfolding some_of
  leaf-right none h = absurd h
  leaf-right (some c) h = h

  field_is : (a : Option (List ℕ)) → Is a → element t (element u (some_of a)) ≡ field_octets t u a
  unfolding field_octets some_of
  field_is none h = absurd h
  field_is (some c) h = refl

  suits : (a : Option (List ℕ)) → Is a → Suits a
  suits none h = tt
  suits (some c) h = h

  pub optional-forth : (s : List ℕ) (q : Part (Option (List ℕ))) → optional t u p s ≡ ok q
      → (s ≡ field_octets t u q.value ++ q.rest) × Suits q.value
  unfolding optional field field_octets
  optional-forth s q e = go (which (starts t s)) where
    go : (starts t s ≡ true) ⊎ (starts t s ≡ false) → (s ≡ field_octets t u q.value ++ q.rest) × Suits q.value
    go (inl b) =
        let h =
        within-forth t any (only u p (λ c. ok (some c))) (λ a. element u (some_of a)) Is
        (only-forth u p (λ c. ok (some c)) some_of Is leaf-forth) s q (rw b at e) in
        (h.0 ∙ rw (field_is q.value h.1), suits q.value h.1)
    go (inr b) =
        let is : record { value = none; rest = s } ≡ q = cc (rw b at e) in
        rw (← is) (refl, tt)

  starts-element : (c r : List ℕ) → starts t (element t c ++ r) ≡ true
  unfolding starts element
  starts-element c r = eq-eqb t t refl

  pub optional-back : (a : Option (List ℕ)) (r : List ℕ) → Suits a → starts t r ≡ false → length (field_octets t u a ++ r) ≤ 65535
      → optional t u p (field_octets t u a ++ r) ≡ ok (record { value = a; rest = r })
  unfolding optional field field_octets some_of
  optional-back none r h out short = rw out
  optional-back (some c) r h out short =
      rw (starts-element (element u c) r)
      (within-back t any (only u p (λ c. ok (some c))) (λ a. element u (some_of a)) Is
      (only-back u p (λ c. ok (some c)) some_of Is leaf-back leaf-right) (λ a g. refl) (some c) r h short)

-- a field of another tag in front
pub starts-past : (t t' u : ℕ) (a : Option (List ℕ)) (r : List ℕ) → (t' ≡ t → ⊥) → starts t r ≡ false → starts t (field_octets t' u a ++ r) ≡ false
unfolding starts field_octets element
starts-past t t' u none r h e = e
starts-past t t' u (some c) r h e = ne_eqb t' t h
