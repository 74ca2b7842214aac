-- Sizes and their sums, in the words of the code.
-- Assumes nothing.
use Prim.Native.Nat.{ℕ, ◌+◌, ◌-◌, ◌<◌, ◌≤◌}
use mathlib.Core.Path.{◌≡◌, sym, ◌∙◌}
use mathlib.Core.Bool.{Bool, true, false}
use mathlib.Core.List.{List, [], ◌∷◌}
use mathlib.Core.Logic.{◌⊎◌, inl, inr}
use native.Mathlib.Numerals.{add-one}
use native.Mathlib.Omega.{arith}
use lib.ListN.{length, drop, get_or, drop_of_length-le}
use lib.Seq.{drop-cons}
use lib.Dec.{eqb, leb}
use borrow.Author.Tests.{eq-eqb, ne_eqb, eqb-true, eqb-false, le-leb, lt-leb}
use Rattle.octets.proofs.Bools.{which}
use Rattle.der.specs.Element.{at_most}
use Rattle.der.specs.Holder.{capped}
use Rattle.der_put.specs.Size.{element_size, field_size, given}
use Rattle.der_put.proofs.Heads.{size-bounds}
use Rattle.envelope.specs.Envelope.{fine_state}
use Rattle.envelope_write.specs.Given.{sum_of, identifiers_size, tail_size, mechanisms_refusal}

eqb_same : (a b c d : ℕ) → (a ≡ b → c ≡ d) → (c ≡ d → a ≡ b) → eqb a b ≡ eqb c d
eqb_same a b c d f g = go (which (eqb a b)) where
  go : (eqb a b ≡ true) ⊎ (eqb a b ≡ false) → eqb a b ≡ eqb c d
  go (inl e) = e ∙ sym (eq-eqb c d (f (eqb-true a b e)))
  go (inr e) = e ∙ sym (ne_eqb c d (λ h. eqb-false a b e (g h)))

-- the sum, size by size
module _ (ns : List ℕ) (n i left : ℕ) (inv : eqb n (sum_of ns) ≡ eqb left (sum_of (drop i ns))) where
  pub sum-end : length ns ≤ i → eqb left 0 ≡ eqb n (sum_of ns)
  unfolding sum_of
  sum-end h = sym (inv ∙ rw (drop_of_length-le ns h))

  module _ (more : i < length ns) where
    next : sum_of (drop i ns) ≡ get_or ns i 0 + sum_of (drop (i + 1) ns)
    unfolding sum_of
    next = rw (drop-cons ns i 0 more, add-one)

    pub sum_past : left < get_or ns i 0 → false ≡ eqb n (sum_of ns)
    sum_past h = sym (inv ∙ ne_eqb left (sum_of (drop i ns)) (λ e. omega (arith, next)))

    pub sum_more : get_or ns i 0 ≤ left → eqb n (sum_of ns) ≡ eqb (left - get_or ns i 0) (sum_of (drop (i + 1) ns))
    sum_more h =
        inv ∙ eqb_same left (sum_of (drop i ns)) (left - get_or ns i 0) (sum_of (drop (i + 1) ns)) (λ e. omega (arith, next)) (λ e. omega (arith, next))

pub ruleset sums = (sum-end, sum_past, sum_more)

-- identifiers, one element more
pub with-limit : (m a : ℕ) → m ≤ 65535 → a ≡ element_size m → a ≤ 65539
with-limit m a h e = let b = size-bounds m in omega arith

module _ (ns : List ℕ) (n i : ℕ) (inv : capped (identifiers_size ns) ≡ capped (n + identifiers_size (drop i ns))) where
  pub sizes-end : length ns ≤ i → n ≤ 65536 → n ≡ capped (identifiers_size ns)
  unfolding identifiers_size
  sizes-end h k = sym (inv ∙ rw (drop_of_length-le ns h) (omega arith))

  pub sizes-more : i < length ns → (m : ℕ) → m ≡ capped (n + element_size (get_or ns i 0))
      → capped (identifiers_size ns) ≡ capped (m + identifiers_size (drop (i + 1) ns))
  unfolding identifiers_size
  sizes-more h m e = inv ∙ rw (drop-cons ns i 0 h, add-one) (omega arith)

pub sizes-start : (ns : List ℕ) → capped (identifiers_size ns) ≡ capped (0 + identifiers_size ns)
sizes-start ns = omega arith

pub sizes-limit : (n x m : ℕ) → m ≡ capped (n + element_size x) → m ≤ 65536
sizes-limit n x m e = omega arith

pub ruleset sizes = (sizes-end, sizes-more, sizes-limit)

pub tail-size : (by : Bool) (y : ℕ) (bt : Bool) (t : ℕ) (bk : Bool) (k y' t' k' r : ℕ) → y' ≡ capped (field_size by y) → t' ≡ capped (field_size bt t)
    → k' ≡ capped (field_size bk k)
    → r ≡ capped (y' + (t' + k')) → r ≡ capped (tail_size by y bt t bk k)
unfolding tail_size
tail-size by y bt t bk k y' t' k' r a b c e = omega arith

pub state-there : (there : Bool) (x : ℕ) → there ≡ true → leb x 3 ≡ fine_state (given there (x ∷ []))
unfolding at_most
state-there there x e = rw e

-- what is wrong with mechanisms
module _ (ns : List ℕ) (n : ℕ) (b : Bool) (b-is : b ≡ eqb n (sum_of ns)) where
  pub refusal-sum : b ≡ false → 20 ≡ mechanisms_refusal ns n
  unfolding mechanisms_refusal
  refusal-sum e = rw (← b-is, e)

  module _ (right : b ≡ true) where
    pub refusal-none : length ns ≡ 0 → 20 ≡ mechanisms_refusal ns n
    unfolding mechanisms_refusal
    refusal-none e = rw (← b-is, right, lt-leb 1 (length ns) (omega arith))

    module _ (some : length ns ≡ 0 → ⊥) where
      one : leb 1 (length ns) ≡ true
      one = le-leb 1 (length ns) (omega arith)

      pub refusal-many : 16 < length ns → 23 ≡ mechanisms_refusal ns n
      unfolding mechanisms_refusal
      refusal-many e = rw (← b-is, right, one, lt-leb (length ns) 16 e)

      pub refusal-no : length ns ≤ 16 → 0 ≡ mechanisms_refusal ns n
      unfolding mechanisms_refusal
      refusal-no e = rw (← b-is, right, one, le-leb (length ns) 16 e)

pub ruleset refusals = (refusal-sum, refusal-none, refusal-many, refusal-no)
