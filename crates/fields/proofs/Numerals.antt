-- Digits, pairs of digits and numerals, in the words of the code.
-- Assumes nothing.
use Prim.Native.Nat.{ℕ, ◌+◌, ◌*◌, ◌≤◌, ◌<◌}
use mathlib.Core.Path.{◌≡◌, sym, ◌∙◌}
use mathlib.Core.List.{List}
use native.Mathlib.Numerals.{add-one}
use native.Mathlib.Omega.{arith}
use lib.ListN.{length, drop, get_or, drop_of_length-le}
use lib.Seq.{drop-cons}
use Rattle.std.proofs.Common.{Some, None}
use borrow.Author.Tests.{lt-ltb, le-ltb, le-leb, lt-leb}
use Rattle.fields.specs.Fields.{below, digit_of, Numeral, is, nothing, numeral_from}

-- a number that is below a bound, and one that is not
pub below-some : (m n v : ℕ) → Some v ≡ below m n → (v ≡ n) × (n < m)
below-some m n v h = grind arith

pub below-none : (m n : ℕ) → None ≡ below m n → m ≤ n
below-none m n h = grind arith

pub digit_most : (c : ℕ) → digit_of c ≤ 16
unfolding digit_of
digit_most c = grind arith

module _ (base most : ℕ) (s : List ℕ) (n i : ℕ) (x : Numeral) (inv : x ≡ numeral_from base most n (drop i s)) where
  pub numeral-end : length s ≤ i → is n ≡ x
  unfolding numeral_from
  numeral-end h = sym (inv ∙ rw (drop_of_length-le s h))

  module _ (more : i < length s) where
    pub numeral-none : base ≤ 16 → None ≡ below 16 (digit_of (get_or s i 0)) → nothing ≡ x
    unfolding numeral_from
    numeral-none least h =
        let a = below-none 16 (digit_of (get_or s i 0)) h in
        sym (inv ∙ rw (drop-cons s i 0, le-leb base (digit_of (get_or s i 0)) (omega arith)))

    module _ (v : ℕ) (v-is : Some v ≡ below 16 (digit_of (get_or s i 0))) where
      same : digit_of (get_or s i 0) ≡ v
      same = sym (below-some 16 (digit_of (get_or s i 0)) v v-is).0

      pub numeral-digit : base ≤ v → nothing ≡ x
      unfolding numeral_from
      numeral-digit h = sym (inv ∙ rw (drop-cons s i 0, same, le-leb _ _ h))

      pub numeral-most : v < base → most < n * base + v → nothing ≡ x
      unfolding numeral_from
      numeral-most u h = sym (inv ∙ rw (drop-cons s i 0, same, lt-leb _ _ u, lt-ltb _ _ h))

      pub numeral-more : v < base → n * base + v ≤ most → x ≡ numeral_from base most (n * base + v) (drop (i + 1) s)
      unfolding numeral_from
      numeral-more u h = inv ∙ rw (drop-cons s i 0) (simp (same, lt-leb _ _ u, le-ltb _ _ h, add-one))

pub ruleset numerals = (numeral-end, numeral-none, numeral-digit, numeral-most, numeral-more)
