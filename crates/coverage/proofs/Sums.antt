-- Header, vectors and bare octets make up a message.
-- Assumes nothing.
use Prim.Native.Nat.{ℕ, zero, suc, ◌+◌, ◌-◌, ◌≤◌, ◌<◌, min}
use mathlib.Core.Path.{◌≡◌, refl}
use mathlib.Core.Bool.{Bool, true, false, not, ◌&&◌, ◌||◌}
use mathlib.Core.Logic.{inl, inr}
use mathlib.Core.List.{List, [], ◌∷◌, Memᴰ}
use native.Mathlib.Omega.{arith}
use lib.ListN.{length}
use lib.Dec.{leb, ltb, eqb}
use borrow.Author.Tests.{le-ltb, lt-leb, ltb-true, ltb-false, leb-true, eqb-true, eqb-false}
use Rattle.octets.proofs.Bools.{which}
use Rattle.vector.specs.declared.Vector.{Vector}
use Rattle.vector.specs.Vector.{extent}
use Rattle.coverage.specs.Coverage.{header_in, vectors_in, in_header, lies_in, lies_in_one, in_vector, is_bare, one, count, header_octets, vector_octets, bare_octets, OctetsSum}

-- places that pass three tests, exactly one of which holds at each
module _ (f g h : ℕ → Bool) (only : (p : ℕ) → one (f p) + one (g p) + one (h p) ≡ 1) where
  pub count-three : (n at : ℕ) → count f n at + count g n at + count h n at ≡ n
  unfolding count
  count-three zero at = refl
  count-three (suc n) at = omega (arith, only at, count-three n (at + 1))

-- tests that agree on every place count the same
pub count_same : (f g : ℕ → Bool) → ((p : ℕ) → f p ≡ g p) → (n at : ℕ) → count f n at ≡ count g n at
unfolding count
count_same f g e zero at = refl
count_same f g e (suc n) at = rw (e at, count_same f g e n (at + 1))

-- the places that fail a test
pub count-not : (f : ℕ → Bool) (n at : ℕ) → count f n at + count (λ p. not (f p)) n at ≡ n
unfolding count one
count-not f zero at = refl
count-not f (suc n) at = go (f at) (count-not f n (at + 1)) where
  go : (b : Bool) → count f n (at + 1) + count (λ p. not (f p)) n (at + 1) ≡ n
      → one b + count f n (at + 1) + (one (not b) + count (λ p. not (f p)) n (at + 1)) ≡ suc n
  go true e = omega arith
  go false e = omega arith

-- a test that fails at each of the places
pub count-zero : (f : ℕ → Bool) (n at : ℕ) → ((p : ℕ) → p < at + n → f p ≡ false) → count f n at ≡ 0
unfolding count one
count-zero f zero at h = refl
count-zero f (suc n) at h = rw (h at (omega arith)) (omega (arith, count-zero f n (at + 1) (λ p k. h p (omega arith))))

-- how many of the places from `at` on lie below a bound
pub count-below : (b n at : ℕ) → count (λ p. ltb p b) n at ≡ min n (b - at)
unfolding count one
count-below b zero at = omega arith
count-below b (suc n) at = elim (which (ltb at b)) [
  | inl e ↦ let h = ltb-true at b e in rw e (omega (arith, count-below b n (at + 1)))
  | inr e ↦ let h = ltb-false at b e in rw e (omega (arith, count-below b n (at + 1)))
]

-- a vector that starts behind the header, or is empty, holds no place of the header
header-free : (header p : ℕ) (v : Vector) → ((extent v ≡ 0 → ⊥) → header ≤ v.offset.0) → p < header → lies_in v p ≡ false
unfolding lies_in
header-free header p v r h = elim (which (eqb (extent v) 0)) [
  | inl e ↦ empty (eqb-true _ _ e)
  | inr e ↦ let b = r (eqb-false _ _ e) in rw (lt-leb v.offset.0 p (omega arith))
] where
  empty : extent v ≡ 0 → leb v.offset.0 p && ltb p (v.offset.0 + extent v) ≡ false
  empty e = elim (which (leb v.offset.0 p)) [
    | inl g ↦ let k = leb-true v.offset.0 p g in rw g (le-ltb p (v.offset.0 + extent v) (omega arith))
    | inr g ↦ rw g
  ]

abbrev Behind : ℕ → List Vector → Type 0
Behind header vs = (v : Vector) → Memᴰ v vs → (extent v ≡ 0 → ⊥) → header ≤ v.offset.0

header-free-all : (header p : ℕ) (vs : List Vector) → Behind header vs → p < header → lies_in_one vs p ≡ false
unfolding lies_in_one
header-free-all header p [] r h = refl
header-free-all header p (v ∷ vs) r h =
    rw (header-free header p v (r v (Memᴰ.head refl)) h, header-free-all header p vs (λ w i. r w (Memᴰ.tail i)) h)

-- each octet is counted in one of the three totals
pub octets-sum : OctetsSum
unfolding header_octets vector_octets bare_octets one
octets-sum m r = count-three (in_header m) (in_vector m) (is_bare m) only (length m) 0 where
  either : (b : Bool) → 0 + one b + one (not (false || b)) ≡ 1
  either true = refl
  either false = refl

  only : (p : ℕ) → one (in_header m p) + one (in_vector m p) + one (is_bare m p) ≡ 1
  only p = elim (which (ltb p (header_in m))) [
    | inl e ↦ rw (e, header-free-all (header_in m) p (vectors_in m) r (ltb-true _ _ e))
    | inr e ↦ rw e (either (in_vector m p))
  ]
