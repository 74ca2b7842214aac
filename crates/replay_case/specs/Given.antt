-- The lines of a case that `replay` takes, as values. Quotations are README.md's, "What a replay looks like".
--
-- Glossary
--   behind_word w s    what stands behind the word w at the front of the line s; nothing where it does not begin so
--   Given              what a side is given: marks and the octets of a list, or nothing; gives m k o: the marks m, and k octets o
--   given_as r d       the same of an answer of src/, whose octets stand at the front of the slice d
--   given_by           what marks and ids give, where neither is bad
--   given_of w s room  what the line s gives, whose first field has to be w, where a slice of `room` octets is lent
use Rattle.std.specs.Prelude.{ℕ, cond, List, [], length, take, drop, Option, Some, None}
use Rattle.octets.specs.Octets.{same_octets}
use Rattle.fields.specs.Fields.{Numeral, is, nothing, Front, front, bad, fit}
use Rattle.script.specs.Grammar.{fields_of, first, others, MARKS, IDS, number_in, rest_in}
use Rattle.replay_case.specs.declared.given.GivenText.{GivenText}

-- "FILE is all that stands behind the one space"
unfoldable pub behind_word : List ℕ → List ℕ → List ℕ
behind_word w s = cond (same_octets (take (length w) s) w) (drop (length w) s) []

pub data Given : Type 0 where
  gives : ℕ → ℕ → List ℕ → Given
  nothing_given : Given

abbrev pub given_as : Option GivenText → List ℕ → Given
given_as (Some r) d = gives r.marks r.length (take r.length d)
given_as None d = nothing_given

abbrev pub given_by : Numeral → Front → Given
given_by (is m) (front k o) = gives m k o
given_by (is m) bad = nothing_given
given_by nothing f = nothing_given

-- "i MARKS ID ID .." and "a MARKS ID ID .."
unfoldable pub given_of : List ℕ → List ℕ → ℕ → Given
given_of w s room =
    cond (same_octets (first (fields_of s)) w)
    (given_by (number_in MARKS (others (fields_of s))) (fit room (rest_in IDS (others (others (fields_of s))))))
    nothing_given
