-- Which octets of a token are covered, and that the other ones decide nothing. Document 02, C-24: "Octets that nothing points at".
--
-- Glossary
--   lies_at m p       the place p of a token lies in the placed message m
--   covered_in ms p   p lies in one of the placed messages ms and is covered there
--   covered s p       so in a message of the token s; of a refused token nothing is covered
--   Agree s t         t agrees with s on the covered octets of s
--   all_shown h m vs  what is handed back of each of the vectors vs in the message m, whose header has h
--   View              what the reading shows of a placed message: its place, its head, its content with all fields and offsets, and the octets of every
--                     vector, nested ones too
--   view_of m         the view of a placed message; views_of ms: of each
--   NothingPointsAt   a token of equal length that agrees with an accepted one on the covered octets is accepted, with the same views
--   SameListing       and with the same listing, line by line
--   SameCovered       and with the same octets covered
--   AllOctets s       each number of s is that of an octet
--   CoveredSeen       the other way: two tokens that are accepted with the same views agree on the covered octets, so that each of these is seen
use Rattle.std.specs.Prelude.{ℕ, ◌+◌, ◌-◌, ◌<◌, ◌≡◌, Bool, true, false, ◌&&◌, ◌||◌, List, [], ◌∷◌, length, get_or, leb, ltb}
use Rattle.vector.specs.declared.Vector.{Vector}
use Rattle.vector.specs.Vector.{shown}
use Rattle.message.specs.Layout.{Head, head_of, Content, content_in}
use Rattle.token.specs.Token.{Placed, Accepted, token_of}
use Rattle.token.specs.Walk.{messages_of}
use Rattle.coverage.specs.Coverage.{header_in, vectors_in, is_covered}
use Rattle.listing.specs.Listing.{lines_of}

abbrev pub lies_at : Placed → ℕ → Bool
lies_at m p = leb m.place p && ltb p (m.place + length m.octets)

-- "call an octet covered if it lies in a message header and isn't a pad, or in a nonempty vector, nested values included"
unfoldable pub covered_in : List Placed → ℕ → Bool
covered_in [] p = false
covered_in (m ∷ ms) p = (lies_at m p && is_covered m.octets (p - m.place)) || covered_in ms p

abbrev pub covered : List ℕ → ℕ → Bool
covered s p = covered_in (messages_of (token_of s)) p

-- "agrees with it on the covered octets"
abbrev pub Agree : List ℕ → List ℕ → Type 0
Agree s t = (p : ℕ) → covered s p ≡ true → get_or t p 0 ≡ get_or s p 0

unfoldable pub all_shown : ℕ → List ℕ → List Vector → List (List ℕ)
all_shown header m [] = []
all_shown header m (v ∷ vs) = shown header m v ∷ all_shown header m vs

-- "the same fields, offsets, and vector octets"
pub record View : Type 0 where
  pub place : ℕ
  pub head : Head
  pub content : Content
  pub vectors : List (List ℕ)

abbrev pub view_of : Placed → View
view_of m = record {
  place = m.place;
  head = head_of m.octets;
  content = content_in m.octets;
  vectors = all_shown (header_in m.octets) m.octets (vectors_in m.octets);
}

unfoldable pub views_of : List Placed → List View
views_of [] = []
views_of (m ∷ ms) = view_of m ∷ views_of ms

-- "If a token is accepted, any token of equal length that agrees with it on the covered octets is accepted too, with the same fields, offsets, and
-- vector octets."
abbrev pub NothingPointsAt : Type 0
NothingPointsAt =
    (s t : List ℕ) (ps : List Placed) → token_of s ≡ Accepted ps → length t ≡ length s → Agree s t
    → (qs : List Placed) × ((token_of t ≡ Accepted qs) × (views_of qs ≡ views_of ps))

-- "the decode has to stay"
abbrev pub SameListing : Type 0
SameListing = (s t : List ℕ) (ps : List Placed) → token_of s ≡ Accepted ps → length t ≡ length s → Agree s t → lines_of t ≡ lines_of s

abbrev pub SameCovered : Type 0
SameCovered = (s t : List ℕ) (ps : List Placed) → token_of s ≡ Accepted ps → length t ≡ length s → Agree s t → (p : ℕ) → covered t p ≡ covered s p

abbrev pub AllOctets : List ℕ → Type 0
AllOctets s = (p : ℕ) → get_or s p 0 < 256

-- coverage is no wider than it must be: where a covered octet is another, the token is refused or shows something else
abbrev pub CoveredSeen : Type 0
CoveredSeen =
    (s t : List ℕ) (ps qs : List Placed) → AllOctets s → AllOctets t → token_of s ≡ Accepted ps → token_of t ≡ Accepted qs
    → views_of qs ≡ views_of ps → Agree s t
