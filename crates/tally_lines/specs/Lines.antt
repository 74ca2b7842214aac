-- The lines of a tally. Document 02, C-23: "prints in this order". A text is the list of its pieces, in order.
--
-- Glossary
--   total_line w n     a word and a number
--   number_line w k n  a word, the number that is counted, and its count
--   type_lines k ns    the counts of the types from k on
--   answer_line k n   the count of the refusals with the number k; none for 0, which is accepted, nor where none was given
--   answer_lines k ns   those of the numbers from k on
--   scheme_line s n    a scheme and its count; scheme_lines l ns: those of schemes
--   octet_lines t      the totals of octets
--   last_lines t u     the count of the messages that list other schemes, and that of the names which aren't opened
--   tally_text t u     the whole text of totals, with u names that aren't opened
--   shown_text t u     that of a record; none of one with more than 64 schemes
--   TextWhole          in a slice of 8,192 octets or more the whole text stands at the front, each piece of it
use Rattle.std.specs.Prelude.{ℕ, ◌+◌, ◌≤◌, ◌≡◌, cond, List, [], ◌∷◌, ◌++◌, length, leb, eqb}
use Rattle.put.specs.Put.{put, joined}
use Rattle.text.specs.Text.{quoted, decimal64, id_text, text, written}
use Rattle.schemes.specs.Lists.{Id}
use Rattle.tallying.specs.declared.Tally.{Tally}
use Rattle.tallying.specs.Files.{Totals}
use Rattle.tallying.specs.Tally.{totals_in}

-- `headers=N`
unfoldable pub total_line : List ℕ → ℕ → List (List ℕ)
total_line word n = word ∷ decimal64 n ∷ quoted "\n" ∷ []

-- `type T count=N`
unfoldable pub number_line : List ℕ → ℕ → ℕ → List (List ℕ)
number_line word k n = word ∷ decimal64 k ∷ quoted " count=" ∷ decimal64 n ∷ quoted "\n" ∷ []

unfoldable pub type_lines : ℕ → List ℕ → List (List ℕ)
type_lines k [] = []
type_lines k (n ∷ ns) = number_line (quoted "type ") k n ++ type_lines (k + 1) ns

-- "for each number given, ascending"
unfoldable pub answer_line : ℕ → ℕ → List (List ℕ)
answer_line k n = cond (eqb k 0) [] (cond (eqb n 0) [] (number_line (quoted "refused ") k n))

unfoldable pub answer_lines : ℕ → List ℕ → List (List ℕ)
answer_lines k [] = []
answer_lines k (n ∷ ns) = answer_line k n ++ answer_lines (k + 1) ns

-- `scheme ID count=N`
unfoldable pub scheme_line : Id → ℕ → List (List ℕ)
scheme_line s n = (quoted "scheme " ∷ []) ++ (id_text s ++ (quoted " count=" ∷ decimal64 n ∷ quoted "\n" ∷ []))

unfoldable pub scheme_lines : List Id → List ℕ → List (List ℕ)
scheme_lines [] ns = []
scheme_lines (s ∷ l) [] = []
scheme_lines (s ∷ l) (n ∷ ns) = scheme_line s n ++ scheme_lines l ns

unfoldable pub octet_lines : Totals → List (List ℕ)
octet_lines t = total_line (quoted "headers=") t.headers ++ (total_line (quoted "vectors=") t.vectors ++ total_line (quoted "bare=") t.bare)

unfoldable pub last_lines : Totals → ℕ → List (List ℕ)
last_lines t unopened = total_line (quoted "others count=") t.offers.others ++ total_line (quoted "unopened count=") unopened

unfoldable pub tally_text : Totals → ℕ → List (List ℕ)
tally_text t unopened =
    type_lines 0 t.types
    ++ (octet_lines t
    ++ (answer_lines 0 t.answers
    ++ (scheme_lines t.offers.ids t.offers.counts
    ++ last_lines t unopened)))

unfoldable pub shown_text : Tally → ℕ → List (List ℕ)
shown_text t unopened = cond (leb t.table.count 64) (tally_text (totals_in t) unopened) []

-- a record's arrays have 8 and 32 numbers
abbrev pub TextWhole : Type 0
TextWhole =
    (t : Tally) (unopened : ℕ) (d : List ℕ) → length t.types ≡ 8 → length t.answers ≡ 32 → 8192 ≤ length d
    → written (shown_text t unopened) (text d 0) ≡ text (put d 0 (joined (shown_text t unopened))) (length (joined (shown_text t unopened)))
