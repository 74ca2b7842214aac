-- Tokens joined, and cut at an end of a message. Document 02, C-21.
--
-- Glossary
--   moved n ps      placed messages with each place moved by n
--   last_of ps      the last of placed messages; end_of ps: the place after it
--   Follows s ps t  the token t goes on where the token s, whose messages are ps, ends: one conversation, and the number after the last of ps
--   JoinedAccepted  two accepted tokens, the second going on where the first ends: joined they are accepted, and so are their lists
--   CutAccepted     an accepted token cut at the end of a message, neither side empty: both sides are accepted, with the two parts of its list
use Rattle.std.specs.Prelude.{ℕ, ◌+◌, ◌<◌, ◌≤◌, ◌≡◌, List, [], ◌∷◌, ◌++◌, length, take, drop}
use Rattle.message.specs.Layout.{head_of}
use Rattle.token.specs.Token.{Placed, Accepted, token_of}

-- "with token places moved by the first's length"
abbrev pub moved : ℕ → List Placed → List Placed
moved n [] = []
moved n (m ∷ ms) = record { place = n + m.place; octets = m.octets } ∷ moved n ms

abbrev pub last_of : List Placed → Placed
last_of [] = record { place = 0; octets = [] }
last_of (m ∷ []) = m
last_of (m ∷ (k ∷ ms)) = last_of (k ∷ ms)

abbrev pub end_of : List Placed → ℕ
end_of ps = (last_of ps).place + length (last_of ps).octets

-- "the conversation is the same, the second starts with the number after the first's last"
pub record Follows (s : List ℕ) (ps : List Placed) (t : List ℕ) : Type 0 where
  pub conversation : (head_of t).conversation ≡ (head_of s).conversation
  pub number : (head_of t).sequence ≡ (head_of (last_of ps).octets).sequence + 1

-- "and together they have at most 65,535 octets, then the joined token is accepted, and its list is the first's followed by the second's"
abbrev pub JoinedAccepted : Type 0
JoinedAccepted =
    (s t : List ℕ) (ps qs : List Placed) → token_of s ≡ Accepted ps → token_of t ≡ Accepted qs
    → Follows s ps t → length s + length t ≤ 65535
    → token_of (s ++ t) ≡ Accepted (ps ++ moved (length s) qs)

-- "an accepted token cut at an end of a message, neither side empty, gives two accepted ones"
abbrev pub CutAccepted : Type 0
CutAccepted =
    (s : List ℕ) (ps qs : List Placed) → token_of s ≡ Accepted (ps ++ qs) → 0 < length ps → 0 < length qs
    → (token_of (take (end_of ps) s) ≡ Accepted ps)
    × ((rs : List Placed) × ((token_of (drop (end_of ps) s) ≡ Accepted rs) × (moved (end_of ps) rs ≡ qs)))
