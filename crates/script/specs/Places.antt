-- The fields of a line by the places at which they start: what reading one of them promises.
--
-- Glossary
--   fields_from s at  the fields of s from a place on; none where it is behind the line's end
--   Behind            what is said of the place behind a field, where the next one starts
use Rattle.std.specs.Prelude.{ℕ, ◌≤◌, ◌<◌, ◌≡◌, cond, List, [], length, drop, ltb}
use Rattle.script.specs.Grammar.{fields_of, others}

unfoldable pub fields_from : List ℕ → ℕ → List (List ℕ)
fields_from s at = cond (ltb (length s) at) [] (fields_of (drop at s))

pub record Behind (s : List ℕ) (from r : ℕ) : Type 0 where
  pub fields : fields_from s r ≡ others (fields_from s from)
  pub onward : from ≤ length s → from < r
