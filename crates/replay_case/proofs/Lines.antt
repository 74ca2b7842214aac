-- The lines of a text that count, in the words of the code.
-- Assumes nothing.
use Prim.Native.Nat.{ℕ, suc, ◌+◌, ◌-◌, ◌≤◌, ◌<◌}
use mathlib.Core.Path.{◌≡◌, refl, ap, ◌∙◌}
use mathlib.Core.Bool.{Bool, true, false, cond, not}
use mathlib.Core.List.{List, [], ◌∷◌}
use native.Mathlib.Omega.{arith}
use lib.ListN.{length, take, drop, get_or, length-drop}
use lib.Seq.{take-length, take_all}
use lib.Dec.{eqb}
use Rattle.std.proofs.lemmas.Grind.{common_steps}
use Rattle.scan.specs.Scan.{index_of, index_after, slice}
use Rattle.fields.specs.Fields.{part}
use Rattle.replay_case.specs.Case.{on_first, text_lines, counts, counted_lines}
use Rattle.replay_case.specs.Steps.{counted}

-- the first line ends before the first line feed, or at the text's end
first-at : (c : ℕ) (t : List ℕ) → (0 < length t → text_lines t ≡ take (index_of 10 t) t ∷ text_lines (drop (suc (index_of 10 t)) t))
    → on_first c (text_lines t) ≡ (c ∷ take (index_of 10 t) t) ∷ text_lines (drop (suc (index_of 10 t)) t)
unfolding text_lines index_of
first-at c [] e = refl
first-at c (d ∷ t) e = ap (on_first c) (e (omega arith))

split_at : (c : ℕ) (t : List ℕ) (k : ℕ) (b : Bool) → on_first c (text_lines t) ≡ (c ∷ take k t) ∷ text_lines (drop (suc k) t)
    → cond b ([] ∷ text_lines t) (on_first c (text_lines t)) ≡ take (index_after b k) (c ∷ t) ∷ text_lines (drop (suc (index_after b k)) (c ∷ t))
unfolding index_after
split_at c t k true e = refl
split_at c t k false e = e

split : (t : List ℕ) → 0 < length t → text_lines t ≡ take (index_of 10 t) t ∷ text_lines (drop (suc (index_of 10 t)) t)
unfolding text_lines index_of
split [] h = absurd (omega arith)
split (c ∷ t) h = split_at c t (index_of 10 t) (eqb c 10) (first-at c t (split t))

-- a line that counts
pub counts_none : (l : List ℕ) → length l ≡ 0 → counts l ≡ false
unfolding counts
counts_none [] h = refl
counts_none (c ∷ l) h = absurd (omega arith)

pub counts_first : (l : List ℕ) → (length l ≡ 0 → ⊥) → counts l ≡ not (eqb (get_or l 0 0) 35)
unfolding counts
counts_first [] h = absurd (h refl)
counts_first (c ∷ l) h = refl

pub counted-none : (s : List ℕ) → length s ≡ 0 → counted s ≡ []
unfolding text_lines counted_lines
counted-none [] h = refl
counted-none (c ∷ s) h = absurd (omega arith)

-- the loop over the lines
module _ (s : List ℕ) (more : length s ≡ 0 → ⊥) (end : ℕ) (end_is : end ≡ 0 + index_of 10 (slice 0 (length s) s)) (rest : List ℕ)
    (rest-is : rest ≡ part s (end + 1) (length s)) where
  end-at : end ≡ index_of 10 s
  unfolding slice
  end-at = end_is ∙ rw (take-length s) (omega arith)

  behind : rest ≡ drop (suc end) s
  behind =
      let n : end + 1 ≡ suc end = omega arith in
      rest-is ∙ rw n (take_all (length s - suc end) (drop (suc end) s) (omega (arith, length-drop (suc end) s)))

  line : counted s ≡ cond (counts (take end s)) (take end s ∷ counted rest) (counted rest)
  unfolding counted_lines
  line = let l : 0 < length s = omega arith in rw (behind, end-at) (ap counted_lines (split s l))

  module _ (b : Bool) (b-is : b ≡ counts (take end s)) (x : List (List ℕ)) (inv : x ≡ counted s) where
    pub next_more : b ≡ false → x ≡ counted rest
    next_more h = inv ∙ line ∙ rw (← b-is, h)

    pub next-there : b ≡ true → x ≡ take end s ∷ counted rest
    next-there h = inv ∙ line ∙ rw (← b-is, h)

pub part-size : (s : List ℕ) (a b : ℕ) → length (part s a b) ≤ length s
part-size s a b = grind (arith, common_steps)

pub ruleset nexts = (counted-none, next_more, next-there)
