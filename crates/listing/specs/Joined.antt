-- The listing of joined tokens. Document 02, C-21.
--
-- Glossary
--   front_lines s    the lines of the token s without the last
--   moved_lines n t  the lines of the messages of the token t, with `at` of each message moved by n
--   JoinedListing    the listing of two joined tokens, without its last line, is the first's without its last, then the second's with `at` moved
--   MovedMessage     `at` stands in the first line of a message, and its other lines are the same at every place
use Rattle.std.specs.Prelude.{ℕ, ◌+◌, ◌-◌, ◌≤◌, ◌≡◌, List, ◌∷◌, ◌++◌, length, take, drop}
use Rattle.message.specs.Layout.{head_of}
use Rattle.token.specs.Token.{Placed, Accepted, token_of}
use Rattle.token.specs.Walk.{messages_of}
use Rattle.token.specs.Joined.{moved, Follows}
use Rattle.lines.specs.Lines.{message_line, message_lines}
use Rattle.windows.specs.Windows.{texts}
use Rattle.listing.specs.Listing.{all_lines, lines_of}

abbrev pub front_lines : List ℕ → List (List ℕ)
front_lines s = take (length (lines_of s) - 1) (lines_of s)

abbrev pub moved_lines : ℕ → List ℕ → List (List ℕ)
moved_lines n t = texts (all_lines (moved n (messages_of (token_of t))))

abbrev pub JoinedListing : Type 0
JoinedListing =
    (s t : List ℕ) (ps qs : List Placed) → token_of s ≡ Accepted ps → token_of t ≡ Accepted qs
    → Follows s ps t → length s + length t ≤ 65535
    → (front_lines (s ++ t) ≡ front_lines s ++ moved_lines (length s) t) × (moved_lines 0 t ≡ front_lines t)

abbrev pub MovedMessage : Type 0
MovedMessage =
    (n place : ℕ) (m : List ℕ) → message_lines (n + place) m ≡ message_line (n + place) (head_of m) ∷ drop 1 (message_lines place m)
