-- How the code blanks a message in one pass: a map holds at each place the farthest end of the vectors that start there, as for C-23.
--
-- Glossary
--   headed k p            the place p lies in the header of a message of the type k and in no pad of it
--   wiped f map far s at  s, whose first octet has the place `at`, with each octet zero whose place fails the test f and does not lie before the farthest
--                         end met so far, which is `far` at the start
--   Marks k m map         by the map, which has a cell for each octet of the message m, one pass for the type k keeps what is covered of a mask of m
--   Room n m              m has its header, and a map of n cells has one for each of its octets
use Rattle.std.specs.Prelude.{ℕ, ◌+◌, ◌≡◌, ◌<◌, ◌≤◌, ◌^◌, max, Bool, cond, not, ◌&&◌, ◌||◌, List, [], ◌∷◌, length, get_or, ltb}
use Rattle.message.specs.Layout.{shape_of, header_of, pads_of}
use Rattle.coverage.specs.Coverage.{header_in, lies_in_pad, is_covered}
use Rattle.blanking.specs.Blanked.{kept}

abbrev pub headed : ℕ → ℕ → Bool
headed kind p = ltb p (header_of (shape_of kind)) && not (lies_in_pad (pads_of (shape_of kind)) p)

unfoldable pub wiped : (ℕ → Bool) → List ℕ → ℕ → List ℕ → ℕ → List ℕ
wiped f map far [] at = []
wiped f map far (x ∷ xs) at =
    cond (f at || ltb at (max far (get_or map at 0))) x 0 ∷ wiped f map (max far (get_or map at 0)) xs (at + 1)

abbrev pub Marks : ℕ → List ℕ → List ℕ → Type 0
Marks kind m map =
    (length map ≡ length m) × ((d : List ℕ) → length d ≡ length m → wiped (headed kind) map 0 d 0 ≡ kept (is_covered m) d 0)

pub record Room (n : ℕ) (m : List ℕ) : Type 0 where
  pub header : header_in m ≤ length m
  pub few : length m < 2 ^ 32
  pub within : length m ≤ n
