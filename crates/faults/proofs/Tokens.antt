-- The fault of a token, in the words of the code.
-- Assumes nothing.
use Prim.Native.Nat.{ℕ, ◌+◌, ◌-◌, ◌<◌, ◌≤◌}
use mathlib.Core.Path.{◌≡◌, refl, sym, ap, ◌∙◌}
use mathlib.Core.Logic.{inl, inr}
use mathlib.Core.List.{List}
use native.Mathlib.Omega.{arith}
use lib.ListN.{length, take, drop, length-append, length-take, length-drop}
use lib.Seq.{length-take-le}
use lib.Dec.{leb}
use borrow.Author.Tests.{le-leb, lt-leb, eq-eqb, ne_eqb}
use Rattle.octets.proofs.Bools.{which}
use Rattle.octets.proofs.Slices.{tail_all}
use Rattle.message.specs.Show.{first_of}
use Rattle.message.specs.Layout.{size}
use Rattle.std.proofs.Common.{Result, Ok, Err}
use Rattle.std.specs.Result.{result_unwrap_or}
use Rattle.refusal.specs.declared.Refusal.{Refusal}
use Rattle.refusal.specs.declared.Refusal.TheVariants as refusal
use Rattle.refusal.specs.Refusals.{number_of}
use Rattle.refusal.proofs.Numbers.{number_once}
use Rattle.token.specs.declared.Refused.{Refused}
use Rattle.token.specs.Token.{Reading, token_of, outcome_of, told}
use Rattle.token.specs.Split.{join}
use Rattle.token.specs.Walk.{messages_of}
use Rattle.token.proofs.Splits.{refused-stops}
use Rattle.token.proofs.Walks.{answer-accepts, answer-number, answer-refuses}
use Rattle.entries.specs.declared.Entry.{Entry}
use Rattle.entries.specs.Entries.{field_entry}
use Rattle.entries.specs.Lookup.{no_entry}
use Rattle.faults.specs.declared.Spot.{Spot}
use Rattle.faults.specs.Faults.{no_spot, spot_of, rest_entry, fault_entry, fault_at, fault_in, fault_of}

-- ---- the words of `fault_entry`
module _ (p i : ℕ) (s : List ℕ) (x : Spot) where
  pub outside-size : length s < x.size → no_entry ≡ fault_entry p i s x
  unfolding fault_entry
  outside-size h = let g : length s < x.at + x.size = omega arith in sym (simp (lt-leb _ _ g))

  module _ (h : x.size ≤ length s) where
    pub outside-at : length s - x.size < x.at → no_entry ≡ fault_entry p i s x
    unfolding fault_entry
    outside-at k = let g : length s < x.at + x.size = omega arith in sym (simp (lt-leb _ _ g))

    module _ (k : x.at ≤ length s - x.size) where
      fits : x.at + x.size ≤ length s
      fits = omega arith

      pub small : x.size < 2 → no_entry ≡ fault_entry p i s x
      unfolding fault_entry
      small g = sym (simp (le-leb _ _ fits, lt-leb _ _ g))

      pub within : 2 ≤ x.size → (e : Entry) → e ≡ field_entry p i s x.what x.number x.at x.size → e ≡ fault_entry p i s x
      unfolding fault_entry
      within g e f = f ∙ sym (simp (le-leb _ _ fits, le-leb _ _ g))

-- no field has no entry
pub none-at : (p i : ℕ) (s : List ℕ) → no_entry ≡ fault_entry p i s no_spot
unfolding fault_entry
none-at p i s = sym (simp (le-leb 0 (length s) (omega arith)))

pub ruleset entries_at = (outside-size, outside-at, small, within)

-- ---- the words of `count_before`
pub front_length : (s : List ℕ) (p : ℕ) → p ≤ length s → p ≡ length (take p s)
front_length s p h = sym (length-take-le p s h)

pub before_count : (s : List ℕ) (r : Result ℕ Refused) → told r ≡ outcome_of (token_of s)
    → result_unwrap_or r 0 ≡ length (messages_of (token_of s))
before_count s (Ok n) e = sym (answer-number s (Ok n) e n refl)
before_count s (Err f) e = sym (ap (λ (x : Reading). length (messages_of x)) (answer-refuses s (Err f) e f refl))

-- ---- the words of `fault`
module _ (s : List ℕ) (r : Result ℕ Refused) (r-is : told r ≡ outcome_of (token_of s)) where
  pub fault-place : (f : Refused) → r ≡ Err f → f.place.0 ≤ length s
  fault-place f here = elim (refused-stops s (number_of f.refusal) f.place.0 (answer-refuses s r r-is f here)) [
    | inl h ↦ omega (arith, h)
    | inr h ↦ elim h [
      | inl g ↦ omega (arith, g)
      | inr g ↦ let (ms, (rest, stop)) = g in omega (arith, stop.place, ap length stop.joins, length-append (join ms) rest)
    ]
  ]

  module _ (h : length s ≤ 65535) (e : Entry) where
    pub fault-none : (n : ℕ) → r ≡ Ok n → e ≡ no_entry → e ≡ fault_of s
    unfolding fault_of
    fault-none n here f = f ∙ sym (ap (λ (x : Reading). fault_in x s) (answer-accepts s r r-is n here)) ∙ sym (simp (le-leb _ _ h))

    pub fault-some : (f : Refused) → r ≡ Err f
        → e ≡ fault_at f.place.0 (length (messages_of (token_of (take f.place.0 s)))) (drop f.place.0 s) (number_of f.refusal) → e ≡ fault_of s
    unfolding fault_of
    fault-some f here g = g ∙ sym (ap (λ (x : Reading). fault_in x s) (answer-refuses s r r-is f here)) ∙ sym (simp (le-leb _ _ h))

pub fault-long : (s : List ℕ) → 65535 < length s → (e : Entry) → e ≡ rest_entry 65535 0 1 → e ≡ fault_of s
unfolding fault_of
fault-long s h e f = f ∙ sym (simp (lt-leb _ _ h))

pub ruleset before = (front_length, before_count)

pub ruleset faults = (fault-place, fault-none, fault-some, fault-long)

-- ---- the words of `fault_at`
first_short : (s : List ℕ) → length (first_of s) ≤ length s
unfolding first_of
first_short s = elim (which (leb 40 (length s))) [
  | inl e ↦ rw e (elim (which (leb (size s) (length s))) [
    | inl f ↦ rw f (omega (arith, length-take (size s) s))
    | inr f ↦ rw f (omega arith)
  ])
  | inr e ↦ rw e (omega arith)
]

module _ (s : List ℕ) (p : ℕ) (h : p ≤ length s) (short : length s ≤ 65535) where
  pub rest-length : p + length (take (length s - p) (drop p s)) ≤ 65535
  rest-length = omega (arith, length-take (length s - p) (drop p s), length-drop p s)

  pub rest-first : (m : List ℕ) → m ≡ first_of (take (length s - p) (drop p s)) → length m ≤ 65535
  rest-first m e = omega (arith, ap length e, first_short (take (length s - p) (drop p s)), rest-length)

  module _ (i : ℕ) (i-is : i ≡ length (messages_of (token_of (take p s)))) (r : Refusal) where
    abbrev Is : Entry → Type 0
    Is e = e ≡ fault_at p (length (messages_of (token_of (take p s)))) (drop p s) (number_of r)

    pub left-rest : r ≡ refusal.TooShort → (e : Entry) → e ≡ rest_entry p i (length (take (length s - p) (drop p s))) → Is e
    unfolding fault_at
    left-rest z e f = (rw (i-is, tail_all s p) at f) ∙ sym (simp (eq-eqb (number_of r) 2 (ap number_of z)))

    module _ (another : r ≡ refusal.TooShort → ⊥) (m : List ℕ) (m-is : m ≡ first_of (take (length s - p) (drop p s))) (x : Spot)
        (x-is : x ≡ spot_of (number_of r) m) where
      pub left-field : (e : Entry) → e ≡ fault_entry p i (take (length s - p) (drop p s)) x → Is e
      unfolding fault_at
      left-field e f =
          (rw (i-is, x-is, m-is, tail_all s p) at f)
          ∙ sym (simp (ne_eqb (number_of r) 2 (λ same. another (number_once r refusal.TooShort same))))

      pub left-none : no_spot ≡ x → Is no_entry
      left-none z = left-field no_entry (none-at p i (take (length s - p) (drop p s)) ∙ ap (fault_entry p i (take (length s - p) (drop p s))) z)

pub ruleset lefts = (rest-length, rest-first, left-rest)
