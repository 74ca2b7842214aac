-- The octets at fault of a refused token: the field whose test fails first. Document 01, "Refusal numbers".
--
-- `Spot` is the struct of src/: what a field is (crates/entries/specs/Names.antt), its number in its list, where it stands in the message, and its size.
--
-- Glossary
--   REST                 what an entry is of that stands for octets and no field
--   spot                 a spot; no_spot: none
--   first_broken h n vs  k   the number of the first of the vectors vs that breaks its rule, the first of them having the number k
--   broken_in m          that of the message m
--   vector_spot shape m  k   where the offset and size of vector k stand in a message m of a layout
--   broken_spot m        where those of the first vector stand that breaks its rule
--   first_critical es k  the number of the first of the elements es whose type is critical, the first of them having the number k
--   critical_spot m      where the type of the first critical extension of a NEGO m stands
--   checksum_spot m      of a VERIFY's checksum header length and scheme, the first that is another than it has to be
--   spot_of n m          by the number n that refuses the message m: the field at fault
--   rest_entry p i n     n octets from the place p on, of message i
--   fault_entry p i s x  the entry of the spot x of the octets s at the place p, of message i; nothing where the spot lies outside of s
--   fault_at p i s n     the fault of what is left, s, at the place p, refused with n: for 2 all of it, else a field
--   fault_in r s         the fault of a token s by its reading r: nothing where it is accepted
--   fault_of s           the fault of a token; of one that is too long the first octet too many
use Rattle.std.specs.Prelude.{ℕ, ◌+◌, ◌*◌, ◌-◌, cond, not, List, [], ◌∷◌, length, take, drop, leb, ltb, eqb}
use Rattle.octets.specs.Octets.{le, signed32, negative}
use Rattle.vector.specs.declared.Vector.{Vector}
use Rattle.vector.specs.Vector.{keeps_rule, shown}
use Rattle.message.specs.Layout.{Shape, nego, exchange, verify, alert, head_of, shape_of, Element, elements_of, extension_vector, alert_vector}
use Rattle.message.specs.Show.{first_of}
use Rattle.token.specs.Token.{Reading, Accepted, Refused, token_of}
use Rattle.token.specs.Walk.{messages_of}
use Rattle.coverage.specs.Coverage.{header_in, vectors_in}
use Rattle.entries.specs.declared.Entry.{Entry}
use Rattle.entries.specs.Names.{SIGNATURE, TYPE, SEQUENCE, HEADER-LENGTH, MESSAGE-LENGTH, CONVERSATION, VERSION, SCHEME-VECTOR, EXTENSION-VECTOR, EXCHANGE-VECTOR, CHECKSUM-HEADER, CHECKSUM-SCHEME, CHECKSUM-VECTOR, ALERT-VECTOR, EXTENSION-TYPE, EXTENSION-VALUE-VECTOR, ALERT-VALUE-VECTOR}
use Rattle.entries.specs.Entries.{field_entry}
use Rattle.entries.specs.Lookup.{no_entry}
use Rattle.faults.specs.declared.Spot.{Spot}

abbrev pub REST : ℕ
REST = 31

abbrev pub spot : ℕ → ℕ → ℕ → ℕ → Spot
spot what k at size = record { what = what; number = k; at = at; size = size }

abbrev pub no_spot : Spot
no_spot = spot 0 0 0 0

-- 11: "a vector breaks its rule"
unfoldable pub first_broken : ℕ → ℕ → List Vector → ℕ → ℕ
first_broken header len [] k = k
first_broken header len (v ∷ vs) k = cond (keeps_rule header len v) (first_broken header len vs (k + 1)) k

abbrev pub broken_in : List ℕ → ℕ
broken_in m = first_broken (header_in m) (length m) (vectors_in m) 0

abbrev pub vector_spot : Shape → List ℕ → ℕ → Spot
vector_spot nego m k =
    cond (eqb k 0) (spot SCHEME-VECTOR 0 80 6)
    (cond (eqb k 1) (spot EXTENSION-VECTOR 0 88 6)
    (spot EXTENSION-VALUE-VECTOR (k - 2) ((extension_vector m).offset.0 + 12 * (k - 2) + 4) 8))
vector_spot exchange m k = spot EXCHANGE-VECTOR 0 56 8
vector_spot verify m k = spot CHECKSUM-VECTOR 0 68 8
vector_spot alert m k =
    cond (eqb k 0) (spot ALERT-VECTOR 0 60 6) (spot ALERT-VALUE-VECTOR (k - 1) ((alert_vector m).offset.0 + 12 * (k - 1) + 4) 8)

unfoldable pub broken_spot : List ℕ → Spot
broken_spot m = cond (ltb (broken_in m) (length (vectors_in m))) (vector_spot (shape_of (head_of m).kind) m (broken_in m)) no_spot

-- 12: "a critical extension"
unfoldable pub first_critical : List Element → ℕ → ℕ
first_critical [] k = k
first_critical (e ∷ es) k = cond (not (negative (signed32 e.type))) (first_critical es (k + 1)) k

unfoldable pub critical_spot : List ℕ → Spot
critical_spot m =
    cond (leb 96 (length m))
    (spot EXTENSION-TYPE (first_critical (elements_of (shown 96 m (extension_vector m))) 0)
    ((extension_vector m).offset.0 + 12 * first_critical (elements_of (shown 96 m (extension_vector m))) 0) 4)
    no_spot

-- 13: "checksum header length isn't 20 or its scheme isn't 1"
unfoldable pub checksum_spot : List ℕ → Spot
checksum_spot m = cond (leb 80 (length m)) (cond (eqb (le 4 m 56) 20) (spot CHECKSUM-SCHEME 0 60 4) (spot CHECKSUM-HEADER 0 56 4)) no_spot

-- the field that the number's test looks at; 1 and 2 look at no field
unfoldable pub spot_of : ℕ → List ℕ → Spot
spot_of n m =
    cond (eqb n 3) (spot SIGNATURE 0 0 8)
    (cond (eqb n 4) (spot TYPE 0 8 4)
    (cond (eqb n 5) (spot HEADER-LENGTH 0 16 4)
    (cond (eqb n 6) (spot MESSAGE-LENGTH 0 20 4)
    (cond (eqb n 7) (spot SEQUENCE 0 12 4)
    (cond (eqb n 8) (spot CONVERSATION 0 24 16)
    (cond (eqb n 10) (spot VERSION 0 72 8)
    (cond (eqb n 11) (broken_spot m)
    (cond (eqb n 12) (critical_spot m)
    (cond (eqb n 13) (checksum_spot m) no_spot)))))))))

abbrev pub rest_entry : ℕ → ℕ → ℕ → Entry
rest_entry p i n = record { what = REST; message = i; number = 0; value = 0; place = p; length = n }

unfoldable pub fault_entry : ℕ → ℕ → List ℕ → Spot → Entry
fault_entry p i s x =
    cond (leb (x.at + x.size) (length s)) (cond (leb 2 x.size) (field_entry p i s x.what x.number x.at x.size) no_entry) no_entry

unfoldable pub fault_at : ℕ → ℕ → List ℕ → ℕ → Entry
fault_at p i s n = cond (eqb n 2) (rest_entry p i (length s)) (fault_entry p i s (spot_of n (first_of s)))

abbrev pub fault_in : Reading → List ℕ → Entry
fault_in (Accepted ms) s = no_entry
fault_in (Refused n p) s = fault_at p (length (messages_of (token_of (take p s)))) (drop p s) n

-- "Each returns its number and the token place of the message at fault"
unfoldable pub fault_of : List ℕ → Entry
fault_of s = cond (leb (length s) 65535) (fault_in (token_of s) s) (rest_entry 65535 0 1)
