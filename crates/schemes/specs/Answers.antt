-- What the functions of this crate answer, where it is more than a number. Document 01, "Who may send what, and when".
--
-- Glossary
--   kept_of ps         places as the record keeps them: in order, zeros behind them, and how many there are; places_in k: the places again
--   Noting k p n       what has to hold for the place p to be noted in k: k has room for it
--   marked_at ks m     the set of the k whose own place ks[k] has its mark in m
--   places_from k n    the n places from k on
--   left_places n c m  of the first n places of the own list, those at the bits of c less the marks m
--   left_of ps         the first of the places left (0 where there is none) and how many there are
--   with_bit m k       the set m and k
--   schemes_of l       ids as octets with zeros behind them, and how many there are
use Rattle.std.specs.Prelude.{ℕ, zero, suc, ◌+◌, ◌^◌, ◌≤◌, ◌<◌, ◌≡◌, false, cond, List, [], ◌∷◌, length, get_or, take}
use Rattle.schemes.specs.Lists.{Id, bit, join_ids}
use Rattle.schemes.specs.Sets.{set_of, has, open_places, pad_to}
use Rattle.schemes.specs.declared.Kept.{Kept}
use Rattle.schemes.specs.declared.Left.{Left}
use Rattle.schemes.specs.declared.Schemes.{Schemes}

-- "whose own places the record keeps in that order"
unfoldable pub kept_of : List ℕ → Kept
kept_of ps = record { places = pad_to 16 ps; count = length ps }

abbrev pub places_in : Kept → List ℕ
places_in k = take k.count k.places

pub record Noting (k : Kept) (p n : ℕ) : Type 0 where
  pub few : n ≤ 16
  pub whole : k ≡ kept_of (places_in k)
  pub room : p < n → has p (places_in k) ≡ false → k.count < 16

-- The marks count own places, and the initiator's common set counts places of the reply: these are the marks by the reply's places.
abbrev pub marked_at : List ℕ → ℕ → ℕ
marked_at ks m = set_of (λ k. bit m k) ks

unfoldable pub places_from : ℕ → ℕ → List ℕ
places_from k zero = []
places_from k (suc n) = k ∷ places_from (suc k) n

-- The acceptor's places left: it keeps each place where it stands.
abbrev pub left_places : ℕ → ℕ → ℕ → List ℕ
left_places n c m = open_places (places_from 0 n) c m

-- "At either end the choice names the lowest one left and how many were left"
unfoldable pub left_of : List ℕ → Left
left_of ps = record { place = get_or ps 0 0; left = length ps }

unfoldable pub with_bit : ℕ → ℕ → ℕ
with_bit m k = cond (bit m k) m (m + 2 ^ k)

-- "the acceptor into its own the common schemes less its marks, in its own order": a list of schemes as the octets that a NEGO lists
unfoldable pub schemes_of : List Id → Schemes
schemes_of l = record { octets = pad_to 256 (join_ids l); count = length l }
