-- Which octets of a message lie in its header, in a vector, or in nothing. Document 02, C-23 and C-24.
--
-- Glossary
--   header_in m       the header length of the message m, by its own type
--   vectors_in m      all vectors of m, the header's in order, then the nested ones; none where m ends before its header does
--   no_vector         an empty vector; vector_in m k: vector k of m, by their order, and no_vector beyond them
--   in_header m p     the place p lies in the header of m; in_pad m p: in a pad of it; lies_in_pad: in one of pads
--   lies_in v p       p lies in the vector v; in an empty one nothing does
--   lies_in_one vs p  p lies in one of vs
--   in_vector m p     p lies in a vector of m, nested ones too
--   is_covered m p    p lies in the header of m and is no pad, or it lies in a vector
--   is_bare m p       p lies neither in the header of m nor in a vector
--   one b             1 where b holds, else 0
--   count f n at      how many of the n places from `at` on pass the test f; places_of m f: how many of the places of m
--   header_octets m   how many octets of m lie in its header; vector_octets: in a vector, each once; bare_octets: in neither
--   octets_in m       the three, as the code answers them
--   AllBehind m       every nonempty vector of m starts behind its header
--   OctetsSum         in a message whose vectors start behind its header each octet is counted in one of the three
use Rattle.std.specs.Prelude.{ℕ, zero, suc, ◌+◌, ◌≤◌, ◌≡◌, Bool, true, false, cond, not, ◌&&◌, ◌||◌, length, get_or, leb, ltb}
use mathlib.Core.List.{List, [], ◌∷◌, Memᴰ}
use Rattle.vector.specs.declared.Vector.{Vector}
use Rattle.vector.specs.Vector.{extent}
use Rattle.coverage.specs.declared.Octets.{Octets}
use Rattle.message.specs.Layout.{head_of, shape_of, header_of, Pad, pads_of, content_in, vectors_of}

abbrev pub header_in : List ℕ → ℕ
header_in m = header_of (shape_of (head_of m).kind)

unfoldable pub vectors_in : List ℕ → List Vector
vectors_in m = cond (leb (header_in m) (length m)) (vectors_of (content_in m)) []

abbrev pub no_vector : Vector
no_vector = record { size = 1; offset = record { 0 = 0 }; count = 0 }

abbrev pub vector_in : List ℕ → ℕ → Vector
vector_in m k = get_or (vectors_in m) k no_vector

abbrev pub in_header : List ℕ → ℕ → Bool
in_header m p = ltb p (header_in m)

unfoldable pub lies_in_pad : List Pad → ℕ → Bool
lies_in_pad [] p = false
lies_in_pad (d ∷ ds) p = (leb d.at p && ltb p (d.at + d.size)) || lies_in_pad ds p

abbrev pub in_pad : List ℕ → ℕ → Bool
in_pad m p = lies_in_pad (pads_of (shape_of (head_of m).kind)) p

unfoldable pub lies_in : Vector → ℕ → Bool
lies_in v p = leb v.offset.0 p && ltb p (v.offset.0 + extent v)

unfoldable pub lies_in_one : List Vector → ℕ → Bool
lies_in_one [] p = false
lies_in_one (v ∷ vs) p = lies_in v p || lies_in_one vs p

-- "in a nonempty vector, nested values included"
abbrev pub in_vector : List ℕ → ℕ → Bool
in_vector m p = lies_in_one (vectors_in m) p

-- C-24: "covered if it lies in a message header and isn't a pad, or in a nonempty vector, nested values included"
abbrev pub is_covered : List ℕ → ℕ → Bool
is_covered m p = (in_header m p && not (in_pad m p)) || in_vector m p

-- C-23: "octets that nothing covers"; the pads of a header lie in the header
abbrev pub is_bare : List ℕ → ℕ → Bool
is_bare m p = not (in_header m p || in_vector m p)

unfoldable pub one : Bool → ℕ
one true = 1
one false = 0

unfoldable pub count : (ℕ → Bool) → ℕ → ℕ → ℕ
count f zero at = 0
count f (suc n) at = one (f at) + count f n (at + 1)

abbrev pub places_of : List ℕ → (ℕ → Bool) → ℕ
places_of m f = count f (length m) 0

-- "octets in headers"
unfoldable pub header_octets : List ℕ → ℕ
header_octets m = places_of m (in_header m)

-- "octets covered by vectors, nested ones too, each octet once"
unfoldable pub vector_octets : List ℕ → ℕ
vector_octets m = places_of m (in_vector m)

-- "octets that nothing covers"
unfoldable pub bare_octets : List ℕ → ℕ
bare_octets m = places_of m (is_bare m)

abbrev pub octets_in : List ℕ → Octets
octets_in m = record { headers = header_octets m; vectors = vector_octets m; bare = bare_octets m }

abbrev pub AllBehind : List ℕ → Type 0
AllBehind m = (v : Vector) → Memᴰ v (vectors_in m) → (extent v ≡ 0 → ⊥) → header_in m ≤ v.offset.0

abbrev pub OctetsSum : Type 0
OctetsSum = (m : List ℕ) → AllBehind m → header_octets m + vector_octets m + bare_octets m ≡ length m
