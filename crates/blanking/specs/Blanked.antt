-- A token with each octet that nothing points at zero. Document 02, C-24: "Editors blank unused stretches before publishing a capture; the decode has to stay."
--
-- Glossary
--   kept f s at     s, whose first octet has the place `at`, with each octet zero whose place fails the test f
--   blanked_by r s  the token s by its reading r: where it is accepted, its covered octets and zeros; where it is refused, as it is
--   blanked s       that of the token s by its structural reading
--   Blanking        what blanking a token comes to: document 01's values of its reading, and its octets afterwards
--   blanking_of s   that of the token s
--   KeepsCovered    of an accepted token each covered octet is kept; ZerosOthers: and every other is zero
--   BlankedDecode   a blanked token has the length of the one that it comes from, is accepted with the same views, and has the same listing
--   BlankedTwice    a token that is blanked twice is as after the first time
use Rattle.std.specs.Prelude.{ℕ, ◌+◌, ◌≡◌, Bool, true, false, cond, List, [], ◌∷◌, length, get_or}
use Rattle.token.specs.Token.{Placed, Reading, Accepted, Refused, token_of, Outcome, outcome_of}
use Rattle.listing.specs.Listing.{lines_of}
use Rattle.blanking.specs.Covered.{covered_in, covered, views_of}

unfoldable pub kept : (ℕ → Bool) → List ℕ → ℕ → List ℕ
kept f [] at = []
kept f (x ∷ xs) at = cond (f at) x 0 ∷ kept f xs (at + 1)

abbrev pub blanked_by : Reading → List ℕ → List ℕ
blanked_by (Accepted ms) s = kept (covered_in ms) s 0
blanked_by (Refused n place) s = s

abbrev pub blanked : List ℕ → List ℕ
blanked s = blanked_by (token_of s) s

pub record Blanking : Type 0 where
  pub outcome : Outcome
  pub octets : List ℕ

abbrev pub blanking_of : List ℕ → Blanking
blanking_of s = record { outcome = outcome_of (token_of s); octets = blanked s }

abbrev pub KeepsCovered : Type 0
KeepsCovered = (s : List ℕ) (ps : List Placed) → token_of s ≡ Accepted ps → (p : ℕ) → covered s p ≡ true → get_or (blanked s) p 0 ≡ get_or s p 0

abbrev pub ZerosOthers : Type 0
ZerosOthers = (s : List ℕ) (ps : List Placed) → token_of s ≡ Accepted ps → (p : ℕ) → covered s p ≡ false → get_or (blanked s) p 0 ≡ 0

-- "the decode has to stay"
abbrev pub BlankedDecode : Type 0
BlankedDecode =
    (s : List ℕ) (ps : List Placed) → token_of s ≡ Accepted ps
    → (length (blanked s) ≡ length s)
    × ((lines_of (blanked s) ≡ lines_of s) × ((qs : List Placed) × ((token_of (blanked s) ≡ Accepted qs) × (views_of qs ≡ views_of ps))))

abbrev pub BlankedTwice : Type 0
BlankedTwice = (s : List ℕ) → blanked (blanked s) ≡ blanked s
