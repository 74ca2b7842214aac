-- Octets that are kept, and the others zero: place by place, and message by message.
-- Assumes nothing.
use Prim.Native.Nat.{ℕ, zero, suc, ◌+◌, ◌-◌, ◌<◌, ◌≤◌}
use mathlib.Core.Path.{◌≡◌, refl, sym, ap, ◌∙◌}
use mathlib.Core.Bool.{Bool, true, false, cond, ◌&&◌, ◌||◌}
use mathlib.Core.Logic.{inl, inr}
use mathlib.Core.List.{List, [], ◌∷◌, ◌++◌}
use native.Mathlib.Nat.{add-zero}
use native.Mathlib.Omega.{arith}
use lib.ListN.{length, get_or, get_or-eq_default}
use lib.Dec.{ltb}
use borrow.Author.Tests.{le-leb, lt-leb, lt-ltb, le-ltb, ltb-true, ltb-false}
use Rattle.octets.proofs.Bools.{which}
use Rattle.token.specs.Token.{Placed, Reading, Accepted, Refused, token_of}
use Rattle.token.specs.Split.{placed_from}
use Rattle.token.specs.Walk.{messages_of}
use Rattle.coverage.specs.Coverage.{is_covered}
use Rattle.blanking.specs.Covered.{lies_at, covered_in, covered, Agree}
use Rattle.blanking.specs.Blanked.{kept, blanked_by, blanked, KeepsCovered, ZerosOthers, BlankedDecode, BlankedTwice}
use Rattle.blanking.proofs.Views.{nothing-points-at, same-listing, same-covered}

-- ---- place by place
pub length-kept : (f : ℕ → Bool) (s : List ℕ) (at : ℕ) → length (kept f s at) ≡ length s
unfolding kept
length-kept f [] at = refl
length-kept f (x ∷ s) at = ap suc (length-kept f s (at + 1))

kept_at : (f : ℕ → Bool) (s : List ℕ) (at i : ℕ) → i < length s → get_or (kept f s at) i 0 ≡ cond (f (at + i)) (get_or s i 0) 0
unfolding kept
kept_at f [] at i h = absurd (omega arith)
kept_at f (x ∷ s) at zero h = ap (λ (n : ℕ). cond (f n) x 0) (sym (add-zero at))
kept_at f (x ∷ s) at (suc i) h =
    let z : at + 1 + i ≡ at + suc i = omega arith in kept_at f s (at + 1) i (omega arith) ∙ ap (λ (n : ℕ). cond (f n) (get_or s i 0) 0) z

kept-yes : (f : ℕ → Bool) (s : List ℕ) (p : ℕ) → f p ≡ true → get_or (kept f s 0) p 0 ≡ get_or s p 0
kept-yes f s p e = elim (which (ltb p (length s))) [
  | inl w ↦ let z : 0 + p ≡ p = omega arith in kept_at f s 0 p (ltb-true _ _ w) ∙ ap (λ (n : ℕ). cond (f n) (get_or s p 0) 0) z ∙ rw e refl
  | inr w ↦ let u : length s ≤ p =
      ltb-false _ _ w in get_or-eq_default (kept f s 0) 0 (omega (arith, length-kept f s 0)) ∙ sym (get_or-eq_default s 0 u)
]

kept-no : (f : ℕ → Bool) (s : List ℕ) (p : ℕ) → f p ≡ false → get_or (kept f s 0) p 0 ≡ 0
kept-no f s p e = elim (which (ltb p (length s))) [
  | inl w ↦ let z : 0 + p ≡ p = omega arith in kept_at f s 0 p (ltb-true _ _ w) ∙ ap (λ (n : ℕ). cond (f n) (get_or s p 0) 0) z ∙ rw e refl
  | inr w ↦ let u : length s ≤ p = ltb-false _ _ w in get_or-eq_default (kept f s 0) 0 (omega (arith, length-kept f s 0))
]

-- tests that agree on every place keep the same
pub kept_same : (f g : ℕ → Bool) (s : List ℕ) (at to : ℕ) → ((i : ℕ) → i < length s → f (at + i) ≡ g (to + i)) → kept f s at ≡ kept g s to
unfolding kept
kept_same f g [] at to h = refl
kept_same f g (x ∷ s) at to h =
    let z : f at ≡ g to = ap f (sym (add-zero at)) ∙ h 0 (omega arith) ∙ ap g (add-zero to) in
    ap (λ (b : Bool). cond b x 0 ∷ kept f s (at + 1)) z
    ∙ ap (λ (l : List ℕ). cond (g to) x 0 ∷ l)
    (kept_same f g s (at + 1) (to + 1) (λ i k.
    let a : at + 1 + i ≡ at + suc i = omega arith in let b : to + suc i ≡ to + 1 + i = omega arith in
    ap f a ∙ h (suc i) (omega arith) ∙ ap g b))

pub kept_append : (f : ℕ → Bool) (a b : List ℕ) (at : ℕ) → kept f (a ++ b) at ≡ kept f a at ++ kept f b (at + length a)
unfolding kept
kept_append f [] b at = ap (kept f b) (sym (add-zero at))
kept_append f (x ∷ a) b at =
    let z : at + 1 + length a ≡ at + suc (length a) = omega arith in
    ap (λ (l : List ℕ). cond (f at) x 0 ∷ l) (kept_append f a b (at + 1) ∙ ap (λ (n : ℕ). kept f a (at + 1) ++ kept f b n) z)

-- what was kept is kept again
kept-kept : (f : ℕ → Bool) (s : List ℕ) (at : ℕ) → kept f (kept f s at) at ≡ kept f s at
unfolding kept
kept-kept f [] at = refl
kept-kept f (x ∷ s) at =
    ap (λ (l : List ℕ). cond (f at) (cond (f at) x 0) 0 ∷ l) (kept-kept f s (at + 1)) ∙ ap (λ (y : ℕ). y ∷ kept f s (at + 1)) (go (f at)) where
      go : (b : Bool) → cond b (cond b x 0) 0 ≡ cond b x 0
      go true = refl
      go false = refl

-- ---- message by message
-- no message covers what stands before the first
pub before-first : (p : ℕ) (ms : List (List ℕ)) (i : ℕ) → i < p → covered_in (placed_from p ms) i ≡ false
unfolding covered_in
before-first p [] i h = refl
before-first p (m ∷ ms) i h = rw (lt-leb p i h, before-first (p + length m) ms i (omega arith))

module _ (p : ℕ) (m : List ℕ) (ms : List (List ℕ)) where
  pub in-first : (i : ℕ) → i < length m → covered_in (placed_from p (m ∷ ms)) (p + i) ≡ is_covered m (0 + i)
  unfolding covered_in
  in-first i h =
      let z : p + i - p ≡ 0 + i = omega arith in
      ap (λ (b : Bool). (lies_at (record { place = p; octets = m }) (p + i) && is_covered m (p + i - p)) || b)
      (before-first (p + length m) ms (p + i) (omega arith))
      ∙ ap (λ (n : ℕ). (lies_at (record { place = p; octets = m }) (p + i) && is_covered m n) || false) z
      ∙ ap (λ (b : Bool). (b && is_covered m (0 + i)) || false) here
      ∙ or-false (is_covered m (0 + i)) where
        here : lies_at (record { place = p; octets = m }) (p + i) ≡ true
        here = rw (le-leb p (p + i) (omega arith), lt-ltb (p + i) (p + length m) (omega arith))

        or-false : (b : Bool) → b || false ≡ b
        or-false true = refl
        or-false false = refl

  pub behind-first : (i : ℕ) → covered_in (placed_from p (m ∷ ms)) (p + length m + i) ≡ covered_in (placed_from (p + length m) ms) (p + length m + i)
  unfolding covered_in
  behind-first i = rw (le-leb p (p + length m + i) (omega arith), le-ltb (p + length m + i) (p + length m) (omega arith))

-- ---- the token
module _ (s : List ℕ) (ps : List Placed) (e : token_of s ≡ Accepted ps) where
  blanked-is : blanked s ≡ kept (covered_in ps) s 0
  blanked-is = ap (λ (r : Reading). blanked_by r s) e

  own : (p : ℕ) → covered_in ps p ≡ covered s p
  own p = sym (ap (λ (r : Reading). covered_in (messages_of r) p) e)

  length-blanked : length (blanked s) ≡ length s
  length-blanked = ap length blanked-is ∙ length-kept (covered_in ps) s 0

  keeps : (p : ℕ) → covered s p ≡ true → get_or (blanked s) p 0 ≡ get_or s p 0
  keeps p c = ap (λ (l : List ℕ). get_or l p 0) blanked-is ∙ kept-yes (covered_in ps) s p (own p ∙ c)

  zeros : (p : ℕ) → covered s p ≡ false → get_or (blanked s) p 0 ≡ 0
  zeros p c = ap (λ (l : List ℕ). get_or l p 0) blanked-is ∙ kept-no (covered_in ps) s p (own p ∙ c)

  twice : blanked (blanked s) ≡ blanked s
  twice =
      let (qs, (a, views)) = nothing-points-at s (blanked s) ps e length-blanked keeps in
      let same : (p : ℕ) → covered_in qs p ≡ covered_in ps p =
      λ p. sym (ap (λ (r : Reading). covered_in (messages_of r) p) a) ∙ same-covered s (blanked s) ps e length-blanked keeps p ∙ sym (own p) in
      ap (λ (r : Reading). blanked_by r (blanked s)) a
      ∙ kept_same (covered_in qs) (covered_in ps) (blanked s) 0 0 (λ i h. same (0 + i))
      ∙ ap (λ (l : List ℕ). kept (covered_in ps) l 0) blanked-is ∙ kept-kept (covered_in ps) s 0 ∙ sym blanked-is

pub keeps-covered : KeepsCovered
keeps-covered s ps e = keeps s ps e

pub zeros-others : ZerosOthers
zeros-others s ps e = zeros s ps e

pub blanked-decode : BlankedDecode
blanked-decode s ps e =
    let n = length-blanked s ps e in
    let a : Agree s (blanked s) = keeps s ps e in
    (n, (same-listing s (blanked s) ps e n a, nothing-points-at s (blanked s) ps e n a))

pub blanked-twice : BlankedTwice
blanked-twice s = go (token_of s) refl where
  go : (r : Reading) → token_of s ≡ r → blanked (blanked s) ≡ blanked s
  go (Accepted ps) e = twice s ps e
  go (Refused n place) e = ap blanked (ap (λ (r : Reading). blanked_by r s) e)
