-- Windows of any lines: the listing's, and those of every other program that prints more than it holds. Document 01, "The listing"; document 02, C-17.
--
-- Glossary
--   texts ls            the texts of lines that are given as pieces of text
--   fitting r ls        as many whole lines from the front of ls as fit into r octets
--   range a b ls        the lines of ls with the places from a up to, not including, b
--   Window              a window as it stands: its number of lines and octets, and its buffer; as_window gives it for the answer of src/
--   shown_in d ls       the window that shows ls in the buffer d
--   window_of ls a b d  the window from line a up to line b of ls, in the buffer d
--   text_of w           the octets that a window shows
--   Request             what is asked for: the line before which the window ends, and the buffer
--   following ls a qs   the texts of windows, one after the other, each from the line after those of the one before, the first from line a
--   reached ls a qs     the line after the last that these windows show
--   EachShows ls a qs   each of them shows at least one line, where there is one
--   GetsOn              a window whose buffer has room for its first line shows it
--   WindowsJoined       such windows hold the lines up to where they reach, each once and in order
--   WindowsAll          enough of them, each showing a line, hold all lines
use Rattle.std.specs.Prelude.{ℕ, ◌+◌, ◌-◌, ◌<◌, ◌≤◌, ◌≡◌, cond, List, [], ◌∷◌, ◌++◌, length, take, drop, get_or, leb}
use Rattle.put.specs.Put.{joined, put}
use Rattle.windows.specs.declared.Shown.{Shown}

unfoldable pub texts : List (List (List ℕ)) → List (List ℕ)
texts [] = []
texts (l ∷ ls) = joined l ∷ texts ls

-- "as many whole lines as fit"
unfoldable pub fitting : ℕ → List (List ℕ) → List (List ℕ)
fitting room [] = []
fitting room (l ∷ ls) = cond (leb (length l) room) (l ∷ fitting (room - length l) ls) []

-- "A range that ends past the last line ends there."
abbrev pub range : ℕ → ℕ → List (List ℕ) → List (List ℕ)
range first end ls = take (end - first) (drop first ls)

pub record Window : Type 0 where
  pub lines : ℕ
  pub octets : ℕ
  pub buffer : List ℕ

abbrev pub as_window : Shown → List ℕ → Window
as_window r d = record { lines = r.lines; octets = r.octets; buffer = d }

-- lines at the buffer's front; "their buffer behind these stays as it was"
abbrev pub shown_in : List ℕ → List (List ℕ) → Window
shown_in d ls = record { lines = length ls; octets = length (joined ls); buffer = put d 0 (joined ls) }

unfoldable pub window_of : List (List ℕ) → ℕ → ℕ → List ℕ → Window
window_of ls first end d = shown_in d (fitting (length d) (range first end ls))

abbrev pub text_of : Window → List ℕ
text_of w = take w.octets w.buffer

pub record Request : Type 0 where
  pub end : ℕ
  pub buffer : List ℕ

-- "each starting at the line behind the one before"
unfoldable pub following : List (List ℕ) → ℕ → List Request → List ℕ
following ls first [] = []
following ls first (q ∷ qs) =
    text_of (window_of ls first q.end q.buffer) ++ following ls (first + (window_of ls first q.end q.buffer).lines) qs

unfoldable pub reached : List (List ℕ) → ℕ → List Request → ℕ
reached ls first [] = first
reached ls first (q ∷ qs) = reached ls (first + (window_of ls first q.end q.buffer).lines) qs

unfoldable pub EachShows : List (List ℕ) → ℕ → List Request → Type 0
EachShows ls first [] = Unit {0}
EachShows ls first (q ∷ qs) =
    (first < length ls → 0 < (window_of ls first q.end q.buffer).lines)
    × EachShows ls (first + (window_of ls first q.end q.buffer).lines) qs

abbrev pub GetsOn : Type 0
GetsOn =
    (ls : List (List ℕ)) (first end : ℕ) (d : List ℕ)
    → first < end → first < length ls → length (get_or ls first []) ≤ length d → 0 < (window_of ls first end d).lines

abbrev pub WindowsJoined : Type 0
WindowsJoined = (ls : List (List ℕ)) (qs : List Request) → following ls 0 qs ≡ joined (take (reached ls 0 qs) ls)

abbrev pub WindowsAll : Type 0
WindowsAll =
    (ls : List (List ℕ)) (qs : List Request) → EachShows ls 0 qs → length ls ≤ length qs → following ls 0 qs ≡ joined ls
