-- The limits, in the words of the loop that tests them.
-- Assumes nothing.
use Prim.Native.Nat.{ℕ, zero, suc, ◌+◌, ◌-◌, ◌*◌, ◌<◌, ◌≤◌}
use mathlib.Core.Path.{◌≡◌, refl, sym, ◌∙◌}
use mathlib.Core.Bool.{Bool, false, not, ◌&&◌}
use mathlib.Core.List.{List}
use native.Mathlib.Nat.{add_assoc, add-zero, zero-add, sub-zero}
use native.Mathlib.Numerals.{add-one}
use native.Mathlib.Omega.{arith}
use lib.ListN.{get_or, length, take, drop}
use lib.Seq.{length-take-le, drop-cons}
use Rattle.std.proofs.lemmas.List.{get_or-take}
use Rattle.std.specs.List.{list_all}
use lib.Dec.{eqb}
use borrow.Author.Tests.{le-leb, lt-leb}
use Rattle.elements.specs.declared.Elements.{Elements}
use Rattle.octets.specs.Octets.{signed32, negative}
use Rattle.elements.specs.Elements.{offset_of, sum_from, small_from, elements_fit, ordinary_from}

pub offset-none : (n p : ℕ) → n ≡ 0 → 0 ≡ offset_of n p
unfolding offset_of
offset-none n p e = rw e

pub offset-some : (n p : ℕ) → (n ≡ 0 → ⊥) → p ≡ offset_of n p
unfolding offset_of
offset-some zero p e = absurd (e refl)
offset-some (suc n) p e = refl

-- one more turn is left
pub one_less : (count i : ℕ) → i < count → count - i ≡ suc (count - (i + 1))
one_less count i h = omega arith

pub sum-turn : (count i : ℕ) (ns : List ℕ) → i < count → sum_from (count - i) i ns ≡ get_or ns i 0 + sum_from (count - (i + 1)) (i + 1) ns
unfolding sum_from
sum-turn count i ns h = rw (one_less count i h)

-- what is still to be tested, of n lent octets: so many sizes, and the sum so far
abbrev pub goes_on : ℕ → ℕ → List ℕ → ℕ → ℕ → Bool
goes_on n count ns i total = small_from (count - i) i ns && eqb (total + sum_from (count - i) i ns) n

pub fit-many : (e : Elements) (v : List ℕ) → 8 < e.count → false ≡ elements_fit e v
unfolding elements_fit
fit-many e v h = simp (lt-leb _ _ h)

pub fit-start : (e : Elements) (v : List ℕ) → e.count ≤ 8 → goes_on (length v) e.count e.sizes 0 0 ≡ elements_fit e v
unfolding elements_fit
fit-start e v h = simp (le-leb _ _ h, zero-add, sub-zero)

module _ (n count : ℕ) (ns : List ℕ) (i total : ℕ) where
  pub fit-turn : i < count → get_or ns i 0 ≤ 4096 → goes_on n count ns i total ≡ goes_on n count ns (i + 1) (total + get_or ns i 0)
  unfolding small_from sum_from
  fit-turn h k = rw (one_less count i h) (simp (le-leb _ _ k, add_assoc))

  pub fit-stop : i < count → 4096 < get_or ns i 0 → goes_on n count ns i total ≡ false
  unfolding small_from
  fit-stop h k = rw (one_less count i h) (simp (lt-leb _ _ k))

  pub fit-end : count ≤ i → goes_on n count ns i total ≡ eqb total n
  unfolding small_from sum_from
  fit-end h = let z : count - i ≡ 0 = omega arith in rw z (simp add-zero)

-- an invariant of the loop: what was to be tested at its start is what is left, and the sum so far is no more than the sizes allow
pub record Tested (n count : ℕ) (ns : List ℕ) (i total : ℕ) : Type 0 where
  pub same : goes_on n count ns 0 0 ≡ goes_on n count ns i total
  pub more : i ≤ count
  pub small : total ≤ 4096 * i

module _ (e : Elements) (v : List ℕ) (few : e.count ≤ 8) (whole : length e.sizes ≡ 8) (i total : ℕ) (t : Tested (length v) e.count e.sizes i total) where
  counted : length (take e.count e.sizes) ≡ e.count
  counted = length-take-le e.count e.sizes (omega arith)

  module _ (h : i < length (take e.count e.sizes)) where
    low : i < e.count
    low = omega (arith, counted)

    read : get_or (take e.count e.sizes) i 0 ≡ get_or e.sizes i 0
    read = get_or-take e.count e.sizes i 0 low

    pub tested-turn : get_or (take e.count e.sizes) i 0 ≤ 4096 → Tested (length v) e.count e.sizes (i + 1) (total + get_or (take e.count e.sizes) i 0)
    tested-turn k =
        let m = t.small in
        let l = low in
        let n : get_or e.sizes i 0 ≤ 4096 = rw read at k in
        rw read (record { same = t.same ∙ fit-turn (length v) e.count e.sizes i total low n; more = omega arith; small = omega arith })

    pub tested-fits : get_or (take e.count e.sizes) i 0 ≤ 4096 → total + get_or (take e.count e.sizes) i 0 < 18446744073709551616
    tested-fits k = let m = t.small in omega (arith, low)

    pub tested-stop : 4096 < get_or (take e.count e.sizes) i 0 → false ≡ elements_fit e v
    tested-stop k = sym (sym (fit-start e v few) ∙ t.same ∙ fit-stop (length v) e.count e.sizes i total low (rw read at k))

  pub tested-end : length (take e.count e.sizes) ≤ i → eqb total (length v) ≡ elements_fit e v
  tested-end h = sym (sym (fit-start e v few) ∙ t.same ∙ fit-end (length v) e.count e.sizes i total (omega (arith, counted)))

-- 26, as a test of each type
pub ordinary-all : (n i : ℕ) (ts : List ℕ) → i + n ≤ length ts
    → list_all (λ t. not (negative (signed32 t))) (take n (drop i ts)) ≡ ordinary_from n i ts
unfolding ordinary_from
ordinary-all zero i ts h = refl
ordinary-all (suc n) i ts h =
    rw (drop-cons ts i 0 (omega arith), ← ordinary-all n (i + 1) ts (omega arith), add-one) refl
