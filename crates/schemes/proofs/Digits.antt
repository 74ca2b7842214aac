-- Bits of a number, as shifts find them.
-- Assumes nothing.
use Prim.Native.Nat.{ℕ, zero, suc, ◌+◌, ◌*◌, ◌-◌, ◌/◌, ◌%◌, ◌^◌, ◌≤◌, ◌<◌}
use mathlib.Core.Path.{◌≡◌, refl, sym, ◌∙◌}
use mathlib.Core.Bool.{Bool, true, false, cond, ◌||◌}
use mathlib.Core.Logic.{◌⊎◌, inl, inr}
use native.Mathlib.Nat.{pow-suc, div-one, lt_of_lt_of_le, div-lt_iff_lt-mul}
use native.Mathlib.Numerals.{one-add}
use native.Mathlib.Omega.{arith}
use mir.Syntax.{w16}
use Rattle.std.specs.Int.{bit_at}
use Rattle.std.specs.Int.RustNames.{bit_or}
use Rattle.std.proofs.lemmas.Nat.Bits.{same_from_bits, bit_at_set_same, bit_at_set_other}
use lib.Dec.{eqb, ltb, leb, eqb-suc-suc, eqb-suc-zero, eqb-zero-suc}
use lib.Pow.{pow_pos, pow_mono, shr-shr}
use borrow.Author.Tests.{ltb-true, ltb-false, eqb-true, eqb-false, eq-eqb, ne_eqb, lt-ltb, le-ltb, le-leb}
use Rattle.octets.proofs.Bools.{which}
use Rattle.schemes.specs.Lists.{bit}
use Rattle.schemes.specs.Sets.{ones, below}
use Rattle.schemes.specs.Answers.{with_bit}

pub bit-shift : (m k : ℕ) → eqb (m / 2 ^ k % 2) 1 ≡ bit m k
bit-shift m zero = rw div-one
bit-shift m (suc k) =
    let e : m / 2 ^ suc k ≡ m / 2 / 2 ^ k = sym (rw one-add at (shr-shr m 1 k)) in
    rw e (bit-shift (m / 2) k)

pub bit-beyond : (m k : ℕ) → m < 2 ^ k → false ≡ bit m k
bit-beyond m zero h = let z : m ≡ 0 = omega arith in rw z
bit-beyond m (suc k) h = let p : 2 ^ suc k ≡ 2 ^ k * 2 = pow-suc 2 k in bit-beyond (m / 2) k (omega arith)

pub ones-pow : (k : ℕ) → ones k + 1 ≡ 2 ^ k
unfolding ones
ones-pow zero = refl
ones-pow (suc k) = let p : 2 ^ suc k ≡ 2 ^ k * 2 = pow-suc 2 k in omega (arith, ones-pow k)

module _ (m k : ℕ) (small : m < 2 ^ 16) (wide : 16 ≤ k) where
  fits : m < 2 ^ k
  fits = lt_of_lt_of_le small (pow_mono {i = 16} {j = k} wide)

  pub bit-none : ltb k 16 ≡ bit m k
  bit-none = le-ltb k 16 wide ∙ bit-beyond m k fits

  pub within-wide : leb 16 k ≡ below k m
  within-wide = le-leb 16 k wide ∙ sym (lt-ltb _ _ fits)

pub within-shift : (m n : ℕ) → eqb (m / 2 ^ n) 0 ≡ below n m
within-shift m n = go (which (ltb m (2 ^ n))) where
  go : (ltb m (2 ^ n) ≡ true) ⊎ (ltb m (2 ^ n) ≡ false) → eqb (m / 2 ^ n) 0 ≡ ltb m (2 ^ n)
  go (inl e) =
      let h : m / 2 ^ n < 1 = (div-lt_iff_lt-mul (pow_pos n)).1 (omega (arith, ltb-true m (2 ^ n) e)) in
      let z : m / 2 ^ n ≡ 0 = omega arith in
      eq-eqb _ _ z ∙ sym e
  go (inr e) = ne_eqb _ _ high ∙ sym e where
    high : m / 2 ^ n ≡ 0 → ⊥
    high z =
        let l : m < 1 * 2 ^ n = (div-lt_iff_lt-mul (pow_pos n)).0 (omega arith) in
        omega (arith, ltb-false m (2 ^ n) e)

-- a shifted 1, in the words of the code
module _ (k : ℕ) (small : k ≤ 16) where
  one_shifted : 1 * 2 ^ k % 4294967296 ≡ 2 ^ k
  one_shifted = let h : 2 ^ k ≤ 65536 = pow_mono {i = k} {j = 16} small in omega arith

  pub full_is : 1 * 2 ^ k % 4294967296 - 1 ≡ ones k
  full_is = rw one_shifted (omega (arith, ones-pow k))

-- a bit that is not set has room for its power
pub bit-room : (n m k : ℕ) → m < 2 ^ n → k < n → bit m k ≡ false → m + 2 ^ k < 2 ^ n
bit-room zero m k h g e = absurd (omega arith)
bit-room (suc n) m zero h g e =
    let p : 2 ^ suc n ≡ 2 ^ n * 2 = pow-suc 2 n in
    let d : m % 2 ≡ 1 → ⊥ = eqb-false (m % 2) 1 e in
    even (m % 2) refl d
  where
    even : (r : ℕ) → m % 2 ≡ r → (r ≡ 1 → ⊥) → m + 1 < 2 ^ suc n
    even zero f d = let p : 2 ^ suc n ≡ 2 ^ n * 2 = pow-suc 2 n in omega arith
    even (suc zero) f d = absurd (d refl)
    even (suc (suc r)) f d = absurd (omega arith)
bit-room (suc n) m (suc k) h g e =
    let p : 2 ^ suc n ≡ 2 ^ n * 2 = pow-suc 2 n in
    let q : 2 ^ suc k ≡ 2 ^ k * 2 = pow-suc 2 k in
    omega (arith, bit-room n (m / 2) k (omega arith) (omega arith) e)

-- its bits are those of the set, and the one
even-next : (m : ℕ) → bit m 0 ≡ false → ((m + 1) / 2 ≡ m / 2) × (bit (m + 1) 0 ≡ true)
even-next m e = go (m % 2) refl (eqb-false (m % 2) 1 e) where
  go : (r : ℕ) → m % 2 ≡ r → (r ≡ 1 → ⊥) → ((m + 1) / 2 ≡ m / 2) × (bit (m + 1) 0 ≡ true)
  go zero f d = (omega arith, eq-eqb ((m + 1) % 2) 1 (omega arith))
  go (suc zero) f d = absurd (d refl)
  go (suc (suc r)) f d = absurd (omega arith)

bit-plus : (m k j : ℕ) → bit m k ≡ false → bit (m + 2 ^ k) j ≡ (eqb j k || bit m j)
bit-plus m zero zero e = (even-next m e).1
bit-plus m zero (suc j) e = rw ((even-next m e).0, eqb-suc-zero)
bit-plus m (suc k) zero e =
    let p : 2 ^ suc k ≡ 2 ^ k * 2 = pow-suc 2 k in
    let q : (m + 2 ^ suc k) % 2 ≡ m % 2 = omega arith in
    rw (q, eqb-zero-suc)
bit-plus m (suc k) (suc j) e =
    let p : 2 ^ suc k ≡ 2 ^ k * 2 = pow-suc 2 k in
    let q : (m + 2 ^ suc k) / 2 ≡ m / 2 + 2 ^ k = omega arith in
    rw (q, eqb-suc-suc) (bit-plus (m / 2) k j e)

pub bit-with : (m k j : ℕ) → bit (with_bit m k) j ≡ (eqb j k || bit m j)
unfolding with_bit
bit-with m k j = go (bit m k) refl where
  same : (b : Bool) → eqb j k ≡ b → bit m k ≡ true → bit m j ≡ (b || bit m j)
  same true f e = let q : j ≡ k = eqb-true j k f in rw q e
  same false f e = refl

  go : (b : Bool) → bit m k ≡ b → bit (cond b m (m + 2 ^ k)) j ≡ (eqb j k || bit m j)
  go true e = same (eqb j k) refl e
  go false e = bit-plus m k j e

-- the set with a bit set, in the words of the code
bit-number : (m k : ℕ) → bit_at m k ≡ cond (bit m k) 1 0
bit-number m k = rw (← bit-shift m k) (go (m / 2 ^ k % 2) (omega arith)) where
  go : (r : ℕ) → r < 2 → r ≡ cond (eqb r 1) 1 0
  go zero h = refl
  go (suc zero) h = refl
  go (suc (suc r)) h = absurd (omega arith)

pub or-with : (m k : ℕ) → k < 16 → bit_or m (1 * 2 ^ k % 65536) ≡ with_bit m k
or-with m k low = same_from_bits _ _ (λ i. each i (eqb i k) refl) where
  each : (i : ℕ) (b : Bool) → eqb i k ≡ b → bit_at (bit_or m (1 * 2 ^ k % 65536)) i ≡ bit_at (with_bit m k) i
  each i true e =
      let q : i ≡ k = eqb-true i k e in
      rw (bit-number (with_bit m k) i, bit-with m k i, e, q) (bit_at_set_same w16 m k low)
  each i false e =
      rw (bit-number (with_bit m k) i, bit-with m k i, e) (bit_at_set_other w16 m k low i (eqb-false i k e) ∙ bit-number m i)

pub ruleset digits = (bit-shift, bit-none, within-wide, within-shift)
