-- The fields of a line from a place on, and looking a word up, in the words of the code.
-- Assumes nothing.
use Prim.Native.Nat.{ℕ, suc, ◌+◌, ◌-◌, ◌≤◌, ◌<◌}
use mathlib.Core.Path.{◌≡◌, refl, sym, ap, subst, ◌∙◌}
use mathlib.Core.Bool.{Bool, true, false, cond}
use mathlib.Core.List.{List, [], ◌∷◌}
use mathlib.Core.Logic.{⊎_elim}
use native.Mathlib.Omega.{arith}
use lib.ListN.{length, take, drop, length-drop, drop_of_length-le}
use lib.Seq.{take-nil, take-length, drop-drop}
use lib.Dec.{eqb, ltb, leb-suc-suc}
use borrow.Author.Tests.{ltb-true, ltb-false, lt-ltb, le-ltb}
use Rattle.octets.proofs.Bools.{which}
use Rattle.scan.specs.Scan.{index_of, index_after, slice}
use Rattle.fields.specs.Fields.{part}
use Rattle.script.specs.Grammar.{longer, fields_of, first, others, only}
use Rattle.script.specs.Places.{fields_from}
use Rattle.script.specs.Steps.{end_of}

pub end-past : (s : List ℕ) (from : ℕ) → length s < from → length s ≡ end_of s from
unfolding end_of
end-past s from h = rw (lt-ltb _ _ h)

pub end-found : (s : List ℕ) (from r : ℕ) → from ≤ length s → r ≡ from + index_of 32 (slice from (length s) s) → r ≡ end_of s from
unfolding end_of
end-found s from r h e = rw (le-ltb _ _ h) e

-- the fields behind the first one, whose end is k
abbrev behind_end : List ℕ → ℕ → List (List ℕ)
behind_end t k = cond (ltb k (length t)) (fields_of (drop (suc k) t)) []

-- the first field ends before the first space
split_at : (c : ℕ) (t : List ℕ) (k : ℕ) (b : Bool) → fields_of t ≡ take k t ∷ behind_end t k
    → cond b ([] ∷ fields_of t) (longer c (fields_of t)) ≡ take (index_after b k) (c ∷ t) ∷ behind_end (c ∷ t) (index_after b k)
unfolding index_after
split_at c t k true e = rw (lt-ltb 0 (suc (length t)) (omega arith))
split_at c t k false e = rw (leb-suc-suc (suc k) (length t)) (ap (longer c) e)

split : (t : List ℕ) → fields_of t ≡ take (index_of 32 t) t ∷ behind_end t (index_of 32 t)
unfolding fields_of index_of
split [] = refl
split (c ∷ t) = split_at c t (index_of 32 t) (eqb c 32) (split t)

module _ (s : List ℕ) (from : ℕ) where
  module _ (outside : length s < from) where
    pub past_none : fields_from s from ≡ []
    unfolding fields_from
    past_none = rw (lt-ltb _ _ outside)

  module _ (inside : from ≤ length s) where
    tail_of_lem : slice from (length s) s ≡ drop from s
    unfolding slice
    tail_of_lem = rw (take-length s)

    end-at : end_of s from ≡ from + index_of 32 (drop from s)
    unfolding end_of
    end-at = rw (le-ltb _ _ inside, tail_of_lem)

    front : part s from (end_of s from) ≡ take (index_of 32 (drop from s)) (drop from s)
    front = let w : end_of s from - from ≡ index_of 32 (drop from s) = omega (arith, end-at) in rw w

    back : fields_from s (end_of s from + 1) ≡ behind_end (drop from s) (index_of 32 (drop from s))
    unfolding fields_from
    back =
        let k = index_of 32 (drop from s) in
        let l : length (drop from s) ≡ length s - from = length-drop from s in
        let n : end_of s from + 1 ≡ from + suc k = omega (arith, end-at) in
        ⊎_elim
        (λ e.
        let u : k < length (drop from s) = ltb-true _ _ e in
        rw (n, e, le-ltb (length s) (from + suc k) (omega arith)) (ap fields_of (sym (drop-drop (suc k) from s))))
        (λ e.
        let u : length (drop from s) ≤ k = ltb-false _ _ e in
        rw (n, e, lt-ltb (length s) (from + suc k) (omega arith)))
        (which (ltb k (length (drop from s))))

    opened : fields_from s from ≡ fields_of (drop from s)
    unfolding fields_from
    opened = rw (le-ltb _ _ inside)

    fields_at : fields_from s from ≡ part s from (end_of s from) ∷ fields_from s (end_of s from + 1)
    fields_at = opened ∙ split (drop from s) ∙ sym (rw (front, back))

  at_place : (P : List (List ℕ) → Type 0) → (length s < from → P [])
      → (from ≤ length s → P (part s from (end_of s from) ∷ fields_from s (end_of s from + 1))) → P (fields_from s from)
  at_place P f g =
      ⊎_elim
      (λ e. let h : length s < from = ltb-true _ _ e in subst P (sym (past_none h)) (f h))
      (λ e. let h : from ≤ length s = ltb-false _ _ e in subst P (sym (fields_at h)) (g h))
      (which (ltb (length s) from))

module _ (s : List ℕ) (from end : ℕ) (end_is : end ≡ end_of s from) where
  outside-end : length s < from → part s from end ≡ []
  outside-end h = let w : length s ≤ from = omega arith in rw (drop_of_length-le s w) (take-nil (end - from))

  pub first-is : (x : List ℕ) → x ≡ part s from end → x ≡ first (fields_from s from)
  first-is x e = at_place s from (λ (fs : List (List ℕ)). x ≡ first fs) (λ h. e ∙ outside-end h) (λ h. e ∙ ap (part s from) end_is)

  pub others-are : fields_from s (end + 1) ≡ others (fields_from s from)
  others-are =
      at_place s from (λ (fs : List (List ℕ)). fields_from s (end + 1) ≡ others fs)
      (λ h. past_none s (end + 1) (let w = end-past s from h in omega arith))
      (λ h. ap (λ (k : ℕ). fields_from s (k + 1)) end_is)

  pub only_none : end < length s → take 0 s ≡ only (fields_from s from)
  only_none h =
      at_place s from (λ (fs : List (List ℕ)). [] ≡ only fs) (λ g. refl)
      (λ g.
      let k : end_of s from + 1 ≤ length s = omega arith in
      ap (λ (fs : List (List ℕ)). only (part s from (end_of s from) ∷ fs)) (sym (fields_at s (end_of s from + 1) k)))

  pub only-is : length s ≤ end → (x : List ℕ) → x ≡ part s from end → x ≡ only (fields_from s from)
  only-is h x e =
      at_place s from (λ (fs : List (List ℕ)). x ≡ only fs) (λ g. e ∙ outside-end g)
      (λ g.
      let k : length s < end_of s from + 1 = omega arith in
      e ∙ ap (part s from) end_is ∙ ap (λ (fs : List (List ℕ)). only (part s from (end_of s from) ∷ fs)) (sym (past_none s (end_of s from + 1) k)))

pub ruleset parts = (end-past, end-found, first-is, only_none, only-is)

-- all fields stand from the start on
pub from_start : (s : List ℕ) → fields_from s 0 ≡ fields_of s
from_start s = opened s 0 (omega arith)

-- a field stands at every place of the line, and none behind its end
pub field_there : (s : List ℕ) (from : ℕ) → from ≤ length s → fields_from s from ≡ first (fields_from s from) ∷ others (fields_from s from)
field_there s from h = at_place s from (λ (fs : List (List ℕ)). fs ≡ first fs ∷ others fs) (λ g. absurd (omega arith)) (λ g. refl)
