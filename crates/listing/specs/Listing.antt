-- The listing of a token. Document 01, "The listing".
--
-- Glossary
--   all_lines ms    the lines of messages
--   reading_lines   the lines of a reading; token_lines s: those of the token s; lines_of s: their texts
--   ShortLines      every line of a token has fewer than 128 octets
--   ListingWindows  windows of a listing, in buffers of at least 128 octets, one after the other, hold all of it
--   FewLines        a listing has at most one line more than its token has octets
use Rattle.std.specs.Prelude.{ℕ, ◌+◌, ◌<◌, ◌≤◌, ◌≡◌, length, get_or}
use mathlib.Core.List.{List, [], ◌∷◌, ◌++◌, Memᴰ}
use Rattle.token.specs.Token.{Placed, Reading, Accepted, Refused, token_of}
use Rattle.put.specs.Put.{joined}
use Rattle.lines.specs.Lines.{message_lines, end_line, refused_line}
use Rattle.windows.specs.Windows.{texts, Request, following}

unfoldable pub all_lines : List Placed → List (List (List ℕ))
all_lines [] = []
all_lines (m ∷ ms) = message_lines m.place m.octets ++ all_lines ms

-- "The listing is the structural reading."
unfoldable pub reading_lines : Reading → ℕ → List (List (List ℕ))
reading_lines (Accepted ms) octets = all_lines ms ++ (end_line (length ms) octets ∷ [])
reading_lines (Refused n place) octets = refused_line n place ∷ []

abbrev pub token_lines : List ℕ → List (List (List ℕ))
token_lines s = reading_lines (token_of s) (length s)

unfoldable pub lines_of : List ℕ → List (List ℕ)
lines_of s = texts (token_lines s)

abbrev pub ShortLines : Type 0
ShortLines = (s : List ℕ) (k : ℕ) → length (get_or (lines_of s) k []) < 128

abbrev pub FewLines : Type 0
FewLines = (s : List ℕ) → length (lines_of s) ≤ length s + 1

-- the requests may end anywhere behind their first line; here they end behind the last
abbrev pub ListingWindows : Type 0
ListingWindows =
    (s : List ℕ) (qs : List Request)
    → ((q : Request) → Memᴰ q qs → (128 ≤ length q.buffer) × (length (lines_of s) ≤ q.end))
    → length (lines_of s) ≤ length qs → following (lines_of s) 0 qs ≡ joined (lines_of s)
