-- Text as octets: quoted words, numbers in decimal, ids in their usual form, and pieces of text written one behind the other.
-- Document 01, "The listing".
--
-- Glossary
--   quoted t      the codes of the characters of t
--   decimal n     a number of 32 bits in decimal; decimal64 n: one of 64 bits; decimal_to m n: in at most m digits
--   signed z      a signed number in decimal, as pieces of text: its minus sign, where it has one, and its digits
--   hex_of x      an octet as two hexadecimal digits; hex_digit: one digit; digits_of v: octets as digits, as pieces of text
--   id_text i     the usual text of the id i, as pieces of text: its octets in order, and dashes
--   id_order      where the octets and dashes of that text come from; glyph_of i k: the piece from the place k; glyphs: those from places
--   Text          a slice, with the place behind what is written in it; text d at is that of slice and place
--   appended t v  t with the piece v behind it, where there is room; as it was where there is none
--   written ps t  t with the pieces ps appended in order
use Rattle.std.specs.Prelude.{ℕ, zero, suc, ◌+◌, ◌/◌, ◌%◌, cond, List, [], ◌∷◌, ◌++◌, length, get_or, ltb, leb, eqb, ℤ, pos, negsuc}
use Prim.Native.Char.{code}
use Prim.Native.String.{String}
use Prim.Native.String as string
use Rattle.put.specs.Put.{put}

abbrev pub quoted : String → List ℕ
quoted string.[] = []
quoted (string.◌∷◌ c s) = code c ∷ quoted s

-- the decimal digits of n, of which `most` are enough, with no zero in front that is not needed
unfoldable pub decimal_to : ℕ → ℕ → List ℕ
decimal_to zero n = []
decimal_to (suc most) n = cond (ltb n 10) ((48 + n) ∷ []) (decimal_to most (n / 10) ++ ((48 + n % 10) ∷ []))

-- a number of 32 bits has at most 10 digits, one of 64 bits at most 20
abbrev pub decimal : ℕ → List ℕ
decimal n = decimal_to 10 n

abbrev pub decimal64 : ℕ → List ℕ
decimal64 n = decimal_to 20 n

-- negsuc n is minus (n + 1)
abbrev pub signed : ℤ → List (List ℕ)
signed (pos n) = decimal n ∷ []
signed (negsuc n) = quoted "-" ∷ decimal (n + 1) ∷ []

-- 0 to 9, then A to F
abbrev pub hex_digit : ℕ → ℕ
hex_digit d = cond (ltb d 10) (48 + d) (55 + d)

abbrev pub hex_of : ℕ → List ℕ
hex_of x = hex_digit (x / 16) ∷ hex_digit (x % 16) ∷ []

unfoldable pub digits_of : List ℕ → List (List ℕ)
digits_of [] = []
digits_of (x ∷ v) = hex_of x ∷ digits_of v

-- "Ids print as the usual text (first three groups byte-reversed)." The places of an id's octets in the order of its text; 16, which is no place,
-- stands for a dash.
abbrev pub id_order : List ℕ
id_order = 3 ∷ 2 ∷ 1 ∷ 0 ∷ 16 ∷ 5 ∷ 4 ∷ 16 ∷ 7 ∷ 6 ∷ 16 ∷ 8 ∷ 9 ∷ 16 ∷ 10 ∷ 11 ∷ 12 ∷ 13 ∷ 14 ∷ 15 ∷ []

abbrev pub glyph_of : List ℕ → ℕ → List ℕ
glyph_of i k = cond (eqb k 16) (quoted "-") (hex_of (get_or i k 0))

unfoldable pub glyphs : List ℕ → List ℕ → List (List ℕ)
glyphs i [] = []
glyphs i (k ∷ ks) = glyph_of i k ∷ glyphs i ks

abbrev pub id_text : List ℕ → List (List ℕ)
id_text i = glyphs i id_order

pub record Text : Type 0 where
  pub octets : List ℕ
  pub next : ℕ

abbrev pub text : List ℕ → ℕ → Text
text d at = record { octets = d; next = at }

unfoldable pub appended : Text → List ℕ → Text
appended t v = cond (leb (t.next + length v) (length t.octets)) (text (put t.octets t.next v) (t.next + length v)) t

unfoldable pub written : List (List ℕ) → Text → Text
written [] t = t
written (p ∷ ps) t = written ps (appended t p)
