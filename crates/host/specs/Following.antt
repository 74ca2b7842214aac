-- Windows of a listing, one after the other, as a C host asks for them. Document 02, C-17.
--
-- Glossary
--   count_in z           how many octets an answer says were written: none where it is a refusal
--   text_in w            the octets that a call wrote into the buffer
--   line_ends v          how many line ends stand in a text
--   ListingEnds          each line of a listing has one line end
--   shown_from s a qs    the texts of windows asked for one after the other, the first from line a, each from the line behind the one before: as many
--                        lines on as it has line ends
--   EachFits s a qs      while lines are left, each of them asks for a line and has room for the first
--   reached_from s a qs  the line behind the last that these windows show
--   HostWindows          such windows from line 0 to the last, joined, are the listing of an accepted token
--   HostReaches          as many windows as there are lines, each of which fits, get to the last
use Rattle.std.specs.Prelude.{ℕ, ◌+◌, ◌<◌, ◌≤◌, ◌≡◌, cond, List, [], ◌∷◌, ◌++◌, length, take, get_or, eqb, ℤ, pos, negsuc}
use Rattle.token.specs.Walk.{Accepts}
use Rattle.put.specs.Put.{joined}
use Rattle.windows.specs.Windows.{Request}
use Rattle.listing.specs.Listing.{lines_of}
use Rattle.replies.specs.Replies.{Lent}
use Rattle.host.specs.Host.{window_answer}

abbrev pub count_in : ℤ → ℕ
count_in (pos n) = n
count_in (negsuc n) = 0

abbrev pub text_in : Lent → List ℕ
text_in w = take (count_in w.answer) w.buffer

-- 10 is LF
unfoldable pub line_ends : List ℕ → ℕ
line_ends [] = 0
line_ends (x ∷ xs) = cond (eqb x 10) 1 0 + line_ends xs

abbrev pub ListingEnds : Type 0
ListingEnds = (s : List ℕ) (k : ℕ) → k < length (lines_of s) → line_ends (get_or (lines_of s) k []) ≡ 1

-- "each starting at the line behind the one before"
unfoldable pub shown_from : List ℕ → ℕ → List Request → List ℕ
shown_from s first [] = []
shown_from s first (q ∷ qs) =
    text_in (window_answer s first q.end q.buffer)
    ++ shown_from s (first + line_ends (text_in (window_answer s first q.end q.buffer))) qs

unfoldable pub EachFits : List ℕ → ℕ → List Request → Type 0
EachFits s first [] = Unit {0}
EachFits s first (q ∷ qs) =
    (first < length (lines_of s) → (first < q.end) × (length (get_or (lines_of s) first []) ≤ length q.buffer))
    × EachFits s (first + line_ends (text_in (window_answer s first q.end q.buffer))) qs

unfoldable pub reached_from : List ℕ → ℕ → List Request → ℕ
reached_from s first [] = first
reached_from s first (q ∷ qs) = reached_from s (first + line_ends (text_in (window_answer s first q.end q.buffer))) qs

-- "Windows of an accepted token, each starting at the line behind the one before, from line 0 to the last, equal, joined, the program's listing."
abbrev pub HostWindows : Type 0
HostWindows = (s : List ℕ) (qs : List Request) → Accepts s → length (lines_of s) ≤ reached_from s 0 qs → shown_from s 0 qs ≡ joined (lines_of s)

abbrev pub HostReaches : Type 0
HostReaches =
    (s : List ℕ) (qs : List Request) → Accepts s → EachFits s 0 qs → length (lines_of s) ≤ length qs → length (lines_of s) ≤ reached_from s 0 qs
