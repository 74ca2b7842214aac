-- A length's octets, and an octet's limit, in the words of the code.
-- Assumes nothing.
use Prim.Native.Nat.{ℕ, suc, ◌-◌, ◌/◌, ◌%◌, ◌<◌, ◌≤◌}
use mathlib.Core.Path.{◌≡◌, refl, ap, ◌∙◌}
use mathlib.Core.Bool.{Bool, false}
use mathlib.Core.List.{List, [], ◌∷◌}
use native.Mathlib.Omega.{arith}
use lib.ListN.{length, take, drop, get_or}
use lib.Seq.{take_all}
use lib.Dec.{leb, eqb}
use lib.Pointwise.{pointwise}
use borrow.Author.Tests.{lt-ltb, le-ltb, ne_eqb}
use Rattle.octets.proofs.Same.{compared}
use Rattle.octets.specs.Octets.{same_octets}
use Rattle.der.specs.Element.{length_of, length_in, number, shortest, at_most}
use Rattle.der.specs.Holder.{capped}

pub size_none : (v : List ℕ) → length v ≡ 0 → 0 ≡ capped (length_in v)
unfolding length_in
size_none [] h = omega arith
size_none (x ∷ v) h = absurd (omega arith)

pub size-short : (v : List ℕ) → (length v ≡ 0 → ⊥) → get_or v 0 0 < 128 → (n : ℕ) → n ≡ get_or v 0 0 → n ≡ capped (length_in v)
unfolding length_in
size-short [] h k n e = absurd (h refl)
size-short (x ∷ v) h k n e = rw (lt-ltb x 128 k) (omega arith)

pub size-long : (v : List ℕ) → (length v ≡ 0 → ⊥) → 128 ≤ get_or v 0 0 → (n : ℕ) → n ≡ capped (number (take (length v - 1) (drop 1 v)))
    → n ≡ capped (length_in v)
unfolding length_in
size-long [] h k n e = absurd (h refl)
size-long (x ∷ v) h k n e =
    let t : take (suc (length v) - 1) v ≡ v = take_all (suc (length v) - 1) v (omega arith) in
    rw (le-ltb x 128 k) (e ∙ ap (λ (w : List ℕ). capped (number w)) t)

pub ruleset sizing = (size_none, size-short, size-long)

module _ (n : ℕ) (v w : List ℕ) (r : Bool) (r-is : r ≡ pointwise eqb v w) where
  same : (x : List ℕ) → w ≡ x → r ≡ same_octets v x
  same x e = r-is ∙ compared v w ∙ ap (same_octets v) e

  pub short-one : n < 128 → w ≡ n ∷ [] → r ≡ shortest v n
  unfolding length_of
  short-one h e = rw (lt-ltb n 128 h) (same _ e)

  pub short-two : 128 ≤ n → n < 256 → w ≡ 0x81 ∷ n ∷ [] → r ≡ shortest v n
  unfolding length_of
  short-two g h e = rw (le-ltb n 128 g, lt-ltb n 256 h) (same _ e)

  pub short-three : 256 ≤ n → w ≡ 0x82 ∷ n / 256 ∷ n % 256 ∷ [] → r ≡ shortest v n
  unfolding length_of
  short-three h e = let g : 128 ≤ n = omega arith in rw (le-ltb n 128 g, le-ltb n 256 h) (same _ e)

pub ruleset shortening = (short-one, short-two, short-three)

module _ (n : ℕ) (v : List ℕ) where
  pub most-one : length v ≡ 1 → leb (get_or v 0 0) n ≡ at_most n v
  unfolding at_most
  most-one h = is v h where
    is : (v : List ℕ) → length v ≡ 1 → leb (get_or v 0 0) n ≡ at_most n v
    is [] h = absurd (omega arith)
    is (x ∷ []) h = refl
    is (x ∷ y ∷ v) h = absurd (omega arith)

  pub most_other : (length v ≡ 1 → ⊥) → eqb (length v) 1 ≡ at_most n v
  unfolding at_most
  most_other h = ne_eqb _ _ h ∙ is v h where
    is : (v : List ℕ) → (length v ≡ 1 → ⊥) → false ≡ at_most n v
    is [] h = refl
    is (x ∷ []) h = absurd (h refl)
    is (x ∷ y ∷ v) h = refl

pub ruleset limits = (most-one, most_other)
