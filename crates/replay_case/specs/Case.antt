-- The text of a case that `replay` takes, as one value. Quotations are README.md's, "What a replay looks like" and, of comments, "What a conversation looks
-- like".
--
-- Glossary
--   text_lines s     the lines of a text, without the line feeds that end them; on_first c ls: the lines ls with the octet c in front of the first of them
--   counts l         the line l is neither empty nor a comment; counted_lines ls: those of ls that count, in order
--   line_at k s      line k, from 0, of those of the text s that count; empty where there are not so many
--   Side             what a case says of a side: the name of its file, its marks, and the octets of its list with their number; side builds one
--   CaseSaid         what a text says: a bad case, or both_sides, the initiator's and the acceptor's
--   sides_by         the case of two names and what their sides are given, where neither is given nothing
--   has_name n       the name n is not empty; with_names: the same case, where neither name is
--   case_in s i a    the case that the text s is, where slices of i and of a octets are lent for the two lists
--   side_as n g d    what the answer says of a side, whose name is n and whose list stands at the front of the slice d
--   case_as r d e    the same of the whole answer; d and e are the slices of the initiator's and of the acceptor's list
use Rattle.std.specs.Prelude.{ℕ, Bool, false, cond, not, List, [], ◌∷◌, length, take, get_or, eqb, ltb, Option, Some, None}
use Rattle.text.specs.Text.{quoted}
use Rattle.replay_case.specs.Given.{behind_word, Given, gives, nothing_given, given_of}
use Rattle.replay_case.specs.declared.given.GivenText.{GivenText}
use Rattle.replay_case.specs.declared.CaseText.{CaseText}

abbrev pub on_first : ℕ → List (List ℕ) → List (List ℕ)
on_first c [] = (c ∷ []) ∷ []
on_first c (l ∷ ls) = (c ∷ l) ∷ ls

-- Each line feed ends a line. What stands behind the last one is a line too, where it is not empty.
unfoldable pub text_lines : List ℕ → List (List ℕ)
text_lines [] = []
text_lines (c ∷ s) = cond (eqb c 10) ([] ∷ text_lines s) (on_first c (text_lines s))

-- "comments and empty lines are passed over, as in scripts": "A line that starts with `#` and an empty line are passed over."
unfoldable pub counts : List ℕ → Bool
counts [] = false
counts (c ∷ l) = not (eqb c 35)

unfoldable pub counted_lines : List (List ℕ) → List (List ℕ)
counted_lines [] = []
counted_lines (l ∷ ls) = cond (counts l) (l ∷ counted_lines ls) (counted_lines ls)

abbrev pub line_at : ℕ → List ℕ → List ℕ
line_at k s = get_or (counted_lines (text_lines s)) k []

pub record Side : Type 0 where
  pub name : List ℕ
  pub marks : ℕ
  pub size : ℕ
  pub list : List ℕ

abbrev pub side : List ℕ → ℕ → ℕ → List ℕ → Side
side n m k o = record { name = n; marks = m; size = k; list = o }

pub data CaseSaid : Type 0 where
  both_sides : Side → Side → CaseSaid
  bad_case : CaseSaid

abbrev pub sides_by : List ℕ → Given → List ℕ → Given → CaseSaid
sides_by n (gives m k o) n' (gives m' k' o') = both_sides (side n m k o) (side n' m' k' o')
sides_by n (gives m k o) n' nothing_given = bad_case
sides_by n nothing_given n' g = bad_case

-- "FILE is all that stands behind the one space, the name of a file"
abbrev pub has_name : List ℕ → Bool
has_name n = ltb 0 (length n)

abbrev pub with_names : List ℕ → Given → List ℕ → Given → CaseSaid
with_names n g n' g' = cond (has_name n) (cond (has_name n') (sides_by n g n' g') bad_case) bad_case

-- "these four lines in this order and no others": "`initiator FILE`", "`acceptor FILE`", "`i MARKS ID ID ..`", "`a MARKS ID ID ..`". "Anything else is the
-- one line `bad case`."
unfoldable pub case_in : List ℕ → ℕ → ℕ → CaseSaid
case_in s iroom aroom =
    cond (eqb (length (counted_lines (text_lines s))) 4)
    (with_names
    (behind_word (quoted "initiator ") (line_at 0 s)) (given_of (quoted "i") (line_at 2 s) iroom)
    (behind_word (quoted "acceptor ") (line_at 1 s)) (given_of (quoted "a") (line_at 3 s) aroom))
    bad_case

abbrev pub side_as : List ℕ → GivenText → List ℕ → Side
side_as n g d = side n g.marks g.length (take g.length d)

-- What stands in a slice behind the list, or where the case is bad, is left to the program.
abbrev pub case_as : Option CaseText → List ℕ → List ℕ → CaseSaid
case_as (Some r) d e = both_sides (side_as r.initiator.now r.i d) (side_as r.acceptor.now r.a e)
case_as None d e = bad_case
