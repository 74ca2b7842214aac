-- The digits that the kit's `io` writes are the decimal text: once over the width.
-- Assumes nothing.
use Prim.Native.Nat.{ℕ, zero, suc, ◌+◌, ◌-◌, ◌*◌, ◌/◌, ◌%◌, ◌^◌, ◌<◌, ◌≤◌}
use mathlib.Core.Path.{◌≡◌, refl, ap, ◌∙◌}
use mathlib.Core.Logic.{inl, inr}
use mathlib.Core.List.{List, [], ◌∷◌, ◌++◌}
use native.Mathlib.Nat.{suc-add, pow-suc, mod-lt, mod-eq_of_lt, pow-le-pow_right}
use native.Mathlib.Omega.{arith}
use lib.Dec.{ltb}
use lib.IntN.{ℤ, pos, negsuc}
use lib.ListN.{length, take, length-append}
use borrow.Author.Tests.{lt-ltb, le-ltb, ltb-true, ltb-false}
use Rattle.octets.proofs.Bools.{which}
use Rattle.io.specs.Digits.{last_digits, IsDigitCount}
use Rattle.text.specs.Text.{decimal_to, decimal, decimal64, signed, Text, written}
use Rattle.put.specs.Put.{joined}

-- k + 1 digits, none of them needless
decimal-digits : (f k n : ℕ) → k < f → n < 10 ^ suc k → (0 < k → 10 ^ k ≤ n) → last_digits 10 (suc k) n ≡ decimal_to f n
unfolding decimal_to
decimal-digits zero k n h a b = absurd (omega arith)
decimal-digits (suc f) zero n h a b = simp (lt-ltb n 10 a, mod-eq_of_lt {n = n} {m = 10} a, lt-ltb n 10 a)
decimal-digits (suc f) (suc k) n h a b =
    let p : 10 ^ suc (suc k) ≡ 10 ^ suc k * 10 = pow-suc 10 (suc k) in
    let q : 10 ^ suc k ≡ 10 ^ k * 10 = pow-suc 10 k in
    let l : 10 ^ 0 ≤ 10 ^ k = pow-le-pow_right {n = 10} (omega arith) {i = 0} {j = k} (omega arith) in
    let g : 10 ^ suc k ≤ n = b (omega arith) in
    let m : n % 10 < 10 = mod-lt n {m = 10} (omega arith) in
    let i : last_digits 10 (suc k) (n / 10) ≡ decimal_to f (n / 10) = decimal-digits f k (n / 10) (omega arith) (omega arith) (λ z. omega arith) in
    simp (le-ltb n 10 (omega arith), i, lt-ltb (n % 10) 10 m)

-- a number below 10 ^ w has at most w digits
few : (w n k : ℕ) → 1 ≤ w → n < 10 ^ w → IsDigitCount 10 1 n k → k < suc w
few w n k o h f = ltb-true k (suc w) (elim (which (ltb k (suc w))) [ inl e ↦ e | inr e ↦ absurd (many (ltb-false k (suc w) e)) ]) where
  many : suc w ≤ k → ⊥
  many g = omega (arith, f.2 (omega arith), pow-le-pow_right {n = 10} (omega arith) {i = w} {j = k - 1} (omega arith))

pub digits_decimal : (w n k : ℕ) → 1 ≤ w → n < 10 ^ w → IsDigitCount 10 1 n k → last_digits 10 k n ≡ decimal_to w n
digits_decimal w n k o h f = go k f.0 f.1 f.2 (few w n k o h f) where
  pred-suc : (k : ℕ) → suc k - 1 ≡ k
  pred-suc k = omega arith

  go : (k : ℕ) → 1 ≤ k → n < 10 ^ k → (1 < k → 10 ^ (k - 1) ≤ n) → k < suc w → last_digits 10 k n ≡ decimal_to w n
  go zero a b c m = absurd (omega arith)
  go (suc k) a b c m = decimal-digits w k n (omega arith) b (λ z. rw (pred-suc k) at (c (omega arith)))

-- a number of at most w digits is the same in more
more : (w k n : ℕ) → 1 ≤ w → n < 10 ^ w → decimal_to (w + k) n ≡ decimal_to w n
unfolding decimal_to
more zero k n o h = absurd (omega arith)
more (suc zero) k n o h = rw (suc-add zero k, lt-ltb n 10 h) refl
more (suc (suc w)) k n o h =
    let p : 10 ^ suc (suc w) ≡ 10 ^ suc w * 10 = pow-suc 10 (suc w) in
    longer (more (suc w) k (n / 10) (omega arith) (omega arith)) where
      longer : decimal_to (suc w + k) (n / 10) ≡ decimal_to (suc w) (n / 10) → decimal_to (suc (suc w) + k) n ≡ decimal_to (suc (suc w)) n
      longer e = rw (suc-add (suc w) k, e) refl

-- a number of 32 bits, written as one of 64
module _ (n : ℕ) (small : n < 4294967296) (t x : Text) where
  narrow : decimal64 n ≡ decimal n
  narrow = more 10 10 n (omega arith) (omega arith)

  pub number-written : x ≡ written (decimal64 n ∷ []) t → x ≡ written (decimal n ∷ []) t
  number-written e = e ∙ ap (λ (v : List ℕ). written (v ∷ []) t) narrow

  pub field-written : (v : List ℕ) → x ≡ written (v ∷ decimal64 n ∷ []) t → x ≡ written (v ∷ decimal n ∷ []) t
  field-written v e = e ∙ ap (λ (d : List ℕ). written (v ∷ d ∷ []) t) narrow

-- the digits of a number that were appended
pub wide-written : (out : List ℕ) (k n : ℕ) → IsDigitCount 10 1 n k → take k out ≡ last_digits 10 k n → (t x : Text)
    → x ≡ written (take k out ∷ []) t → n < 18446744073709551616 → x ≡ written (decimal64 n ∷ []) t
wide-written out k n fewest is t x e h = e ∙ ap (λ (v : List ℕ). written (v ∷ []) t) (is ∙ digits_decimal 20 n k (omega arith) (omega arith) fewest)

pub length-decimal : (w n : ℕ) → length (decimal_to w n) ≤ w
unfolding decimal_to
length-decimal zero n = omega arith
length-decimal (suc w) n = elim (which (ltb n 10)) [ inl e ↦ rw e (omega arith) | inr e ↦ rw e (longer (length-decimal w (n / 10))) ] where
  longer : length (decimal_to w (n / 10)) ≤ w → length (decimal_to w (n / 10) ++ ((48 + n % 10) ∷ [])) ≤ suc w
  longer h = omega (arith, length-append (decimal_to w (n / 10)) ((48 + n % 10) ∷ []))

pub length-signed : (z : ℤ) → length (joined (signed z)) ≤ 11
length-signed (pos n) = simp length-append (omega (arith, length-decimal 10 n))
length-signed (negsuc n) = simp length-append (omega (arith, length-decimal 10 (n + 1)))

pub ruleset numbers = (number-written, field-written, wide-written)
