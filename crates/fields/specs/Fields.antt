-- What a field of a script's line says: numbers, octets and ids. Quotations are README.md's, "What a conversation looks like".
--
-- Glossary
--   part s from end  the octets of s from `from` on, up to `end`
--   digit_of c       the value of a hexadecimal digit of either case; 16, which is none, for any other octet
--   pair_of a b      the octet that two digits stand for; 256, which is none, where either is no digit
--   below m n        what src/ answers where the number n stands for none from m on
--   Numeral          a number, or none
--   numeral          the number that digits of a base stand for, most significant first, where it and all numbers in front of it are at most `most`;
--                    numeral_from: behind digits already read
--   base_of b        the number of digits of the base b of src/
--   number_of        what the answer of src/ says
--   hexadecimal_of   a number of so many hexadecimal digits; room_of: a field ROOM
--   Octets           octets, or none; behind_all l o: those of o behind l
--   Front            how many octets stand at the front of a slice, and which; or that they are bad
--   fit room o       the octets o at the front of a slice of `room` octets, where there is room for them
--   pairs_of s       the octets that the digits s stand for, two an octet
--   octets_of s      what a field OCTETS says; random_of s: what a field RANDOM says
--   decoded_as r d   what the answer of src/ says of the slice d
--   Decodes s d o r d'   the field s, decoded into d, is answered by r as the octets o; d' is d afterwards, which is left open where a bad field wrote
--   id_of s          the id with the usual text s; id_as: what the answer says
--   id_places        where the digits of an id's octets stand in its text; octets_at s ks: the octets whose digits stand at places of s
--   dashed s         the four dashes of an id's text are there
use Rattle.std.specs.Prelude.{ℕ, ◌+◌, ◌*◌, ◌-◌, ◌/◌, ◌≡◌, Bool, cond, ◌&&◌, List, [], ◌∷◌, ◌++◌, length, take, drop, get_or, eqb, ltb, leb, Option, Some, None}
use Rattle.octets.specs.Octets.{same_octets}
use Rattle.text.specs.Text.{quoted}
use Rattle.fields.specs.declared.number.Base.{Base}
use Rattle.fields.specs.declared.number.Base.TheVariants as base

abbrev pub part : List ℕ → ℕ → ℕ → List ℕ
part s from end = take (end - from) (drop from s)

-- "Hexadecimal digits may be of either case"
unfoldable pub digit_of : ℕ → ℕ
digit_of c =
    cond (ltb c 48) 16
    (cond (ltb c 58) (c - 48)
    (cond (ltb c 65) 16
    (cond (ltb c 71) (c - 55)
    (cond (ltb c 97) 16
    (cond (ltb c 103) (c - 87) 16)))))

unfoldable pub pair_of : ℕ → ℕ → ℕ
pair_of a b = cond (eqb (digit_of a) 16) 256 (cond (eqb (digit_of b) 16) 256 (16 * digit_of a + digit_of b))

abbrev pub below : ℕ → ℕ → Option ℕ
below m n = cond (ltb n m) (Some n) None

pub data Numeral : Type 0 where
  is : ℕ → Numeral
  nothing : Numeral

unfoldable pub numeral_from : ℕ → ℕ → ℕ → List ℕ → Numeral
numeral_from base most n [] = is n
numeral_from base most n (c ∷ s) =
    cond (leb base (digit_of c)) nothing
    (cond (ltb most (n * base + digit_of c)) nothing (numeral_from base most (n * base + digit_of c) s))

abbrev pub numeral : ℕ → ℕ → List ℕ → Numeral
numeral base most s = numeral_from base most 0 s

abbrev pub base_of : Base → ℕ
base_of base.Decimal = 10
base_of base.Hexadecimal = 16

abbrev pub number_of : Option ℕ → Numeral
number_of (Some n) = is n
number_of None = nothing

-- "MARKS is four, TYPE and CODE are eight hexadecimal digits, most significant first"
unfoldable pub hexadecimal_of : ℕ → ℕ → List ℕ → Numeral
hexadecimal_of digits most s = cond (eqb (length s) digits) (numeral 16 most s) nothing

-- "ROOM is one to five decimal digits, at most 65536"
unfoldable pub room_of : List ℕ → Numeral
room_of s = cond (ltb (length s) 1) nothing (cond (ltb 5 (length s)) nothing (numeral 10 65536 s))

pub data Octets : Type 0 where
  of : List ℕ → Octets
  none : Octets

abbrev pub behind_all : List ℕ → Octets → Octets
behind_all l (of r) = of (l ++ r)
behind_all l none = none

pub data Front : Type 0 where
  front : ℕ → List ℕ → Front
  bad : Front

abbrev pub fit : ℕ → Octets → Front
fit room (of o) = cond (leb (length o) room) (front (length o) o) bad
fit room none = bad

-- two digits an octet, in order
unfoldable pub pairs_of : List ℕ → Octets
pairs_of [] = of []
pairs_of (a ∷ []) = none
pairs_of (a ∷ b ∷ s) = cond (ltb 255 (pair_of a b)) none (behind_all (pair_of a b ∷ []) (pairs_of s))

-- "OCTETS is an even number, at least two, of hexadecimal digits, or `-` for none."
unfoldable pub octets_of : List ℕ → Octets
octets_of s = cond (eqb (length s) 0) none (cond (same_octets s (quoted "-")) (of []) (pairs_of s))

-- "RANDOM is 64 hexadecimal digits"
unfoldable pub random_of : List ℕ → Octets
random_of s = cond (eqb (length s) 64) (pairs_of s) none

abbrev pub decoded_as : Option ℕ → List ℕ → Front
decoded_as (Some n) d = front n (take n d)
decoded_as None d = bad

-- A field of `length s` digits writes no octet from place `length s / 2` on. In front of that place stand the octets, where the field is good; where it is
-- bad, what stands there is left to the program.
pub record Decodes (s d : List ℕ) (o : Octets) (r : Option ℕ) (d' : List ℕ) : Type 0 where
  pub says : decoded_as r d' ≡ fit (length d) o
  pub behind : drop (length s / 2) d' ≡ drop (length s / 2) d

-- an id's usual text: where the digits of each octet stand, and the four dashes
abbrev pub id_places : List ℕ
id_places = 6 ∷ 4 ∷ 2 ∷ 0 ∷ 11 ∷ 9 ∷ 16 ∷ 14 ∷ 19 ∷ 21 ∷ 24 ∷ 26 ∷ 28 ∷ 30 ∷ 32 ∷ 34 ∷ []

unfoldable pub octets_at : List ℕ → List ℕ → Octets
octets_at s [] = of []
octets_at s (k ∷ ks) =
    cond (ltb 255 (pair_of (get_or s k 0) (get_or s (k + 1) 0))) none
    (behind_all (pair_of (get_or s k 0) (get_or s (k + 1) 0) ∷ []) (octets_at s ks))

abbrev pub dashed : List ℕ → Bool
dashed s = eqb (get_or s 8 0) 45 && (eqb (get_or s 13 0) 45 && (eqb (get_or s 18 0) 45 && eqb (get_or s 23 0) 45))

unfoldable pub id_of : List ℕ → Octets
id_of s = cond (eqb (length s) 36) (cond (dashed s) (octets_at s id_places) none) none

abbrev pub id_as : Option (List ℕ) → Octets
id_as (Some o) = of o
id_as None = none
