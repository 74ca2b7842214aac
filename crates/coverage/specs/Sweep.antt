-- How the code counts them in one pass: at each place a map holds the farthest end of the vectors that start there.
--
-- Glossary
--   Clear map     a map that holds nothing
--   end_in n v    where v ends, within n places
--   marked map v  map with v's end at v's start, where that is farther; marked_all: with each of vs
--   sweep map far n at   how many of the n places from `at` on lie before the farthest end met so far, which is `far` at the start
use Rattle.std.specs.Prelude.{ℕ, zero, suc, ◌+◌, min, max, ◌≡◌, List, [], ◌∷◌, length, get_or, set, ltb}
use Rattle.vector.specs.declared.Vector.{Vector}
use Rattle.vector.specs.Vector.{extent}
use Rattle.coverage.specs.Coverage.{one}

abbrev pub Clear : List ℕ → Type 0
Clear map = (p : ℕ) → get_or map p 0 ≡ 0

abbrev pub end_in : ℕ → Vector → ℕ
end_in n v = min (v.offset.0 + extent v) n

unfoldable pub marked : List ℕ → Vector → List ℕ
marked map v = set map v.offset.0 (max (get_or map v.offset.0 0) (end_in (length map) v))

unfoldable pub marked_all : List ℕ → List Vector → List ℕ
marked_all map [] = map
marked_all map (v ∷ vs) = marked_all (marked map v) vs

unfoldable pub sweep : List ℕ → ℕ → ℕ → ℕ → ℕ
sweep map far zero at = 0
sweep map far (suc n) at =
    one (ltb at (max far (get_or map at 0))) + sweep map (max far (get_or map at 0)) n (at + 1)
