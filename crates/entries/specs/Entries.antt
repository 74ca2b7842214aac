-- All that a viewer shows of a token, as a list of entries of one size: each field, vector, scheme id and nested value with its place in the token.
-- Document 02, C-17: "A capture viewer needs .. a message's header fields .., each vector's token place .. and length in octets."
--
-- `Entry` is the struct of src/: what it is (specs/Names.antt), the number of its message, its number in its list (0 where it stands in none), its value,
-- its place in the token and its length in octets.
--
-- Glossary
--   Field              a field of a header: what it is, where it stands in the message, and its size; field makes one
--   common_fields      those of the common header; fields_of: all of a layout's header, pads too, in order
--   no_field           what stands beyond the last; field_at shape k: field k
--   number_at n m at   the number in a field of n octets: in its first four, or in two where it has fewer than four
--   field_entry        the entry of a field of a message, the number k in its list
--   message_entry      that of a message itself; its value is its type
--   header_entry       that of field k of its header
--   vector_what shape k, vector_number shape k   what vector k of a layout points at, and its number in its list
--   vector_entry       the entry of the octets of vector k: its value is the offset as it stands, its place that of an empty one's message
--   ids_vector         the vector of a list of schemes, empty where a layout has none; array_vector: that of extensions or alerts
--   type_what, value_what   what the two fields of an element of a layout's array are
--   id_entry           the entry of the scheme k of a list; type_entry: of the type of extension or alert k; value_entry: of the vector of its value
--   listed f n k       f of the n numbers from k on
--   elements_in, lists_in, body_in   the entries of a message's extensions or alerts; with the schemes before them; with the vectors before those
--   shaped_in          all of a message of a layout
--   entries_in p i m   all of the message m at the token place p, message i: itself, its header's fields, its vectors, its list of schemes, then the types and
--                      then the values' vectors of its extensions or alerts
--   entries_from i ms  those of placed messages, the first of which is message i; entries_of ms: of a token's
--   entry_octets es    entries in octets: six numbers each, in four octets each
use Rattle.std.specs.Prelude.{ℕ, zero, suc, ◌+◌, ◌*◌, ◌-◌, cond, List, [], ◌∷◌, ◌++◌, length, get_or, ltb, eqb}
use Rattle.octets.specs.Octets.{le}
use Rattle.vector.specs.declared.Vector.{Vector}
use Rattle.vector.specs.Vector.{extent}
use Rattle.message.specs.Layout.{Shape, nego, exchange, verify, alert, head_of, shape_of, scheme_vector, extension_vector, alert_vector}
use Rattle.token.specs.Token.{Placed}
use Rattle.coverage.specs.Coverage.{vectors_in, no_vector, vector_in}
use Rattle.table.specs.Table.{vector_place, numbers}
use Rattle.entries.specs.declared.Entry.{Entry}
use Rattle.entries.specs.Names.{MESSAGE, SIGNATURE, TYPE, SEQUENCE, HEADER-LENGTH, MESSAGE-LENGTH, CONVERSATION, RANDOM, VERSION, SCHEME-VECTOR, EXTENSION-VECTOR, SCHEME, EXCHANGE-VECTOR, CHECKSUM-HEADER, CHECKSUM-SCHEME, CHECKSUM-TYPE, CHECKSUM-VECTOR, ERROR-CODE, ALERT-VECTOR, PAD, SCHEMES, EXTENSIONS, EXTENSION-VALUE, EXCHANGE, CHECKSUM-VALUE, ALERTS, ALERT-VALUE, EXTENSION-TYPE, EXTENSION-VALUE-VECTOR, ALERT-TYPE, ALERT-VALUE-VECTOR}

pub record Field : Type 0 where
  pub what : ℕ
  pub at : ℕ
  pub size : ℕ

abbrev pub field : ℕ → ℕ → ℕ → Field
field what at size = record { what = what; at = at; size = size }

-- "Common header, 40 octets: signature 0 .., type 8, sequence 12, header length 16, message length 20, conversation 24."
abbrev pub common_fields : List Field
common_fields =
    field SIGNATURE 0 8
    ∷ field TYPE 8 4
    ∷ field SEQUENCE 12 4
    ∷ field HEADER-LENGTH 16 4
    ∷ field MESSAGE-LENGTH 20 4
    ∷ field CONVERSATION 24 16
    ∷ []

-- the table's last column: "fields after 40". "A scheme, extension or alert vector is offset (4), count (2), pad (2)."
abbrev pub fields_of : Shape → List Field
fields_of nego =
    common_fields
    ++ (field RANDOM 40 32
    ∷ field VERSION 72 8
    ∷ field SCHEME-VECTOR 80 6
    ∷ field PAD 86 2
    ∷ field EXTENSION-VECTOR 88 6
    ∷ field PAD 94 2
    ∷ [])
fields_of exchange = common_fields ++ (field SCHEME 40 16 ∷ field EXCHANGE-VECTOR 56 8 ∷ [])
fields_of verify =
    common_fields
    ++ (field SCHEME 40 16
    ∷ field CHECKSUM-HEADER 56 4
    ∷ field CHECKSUM-SCHEME 60 4
    ∷ field CHECKSUM-TYPE 64 4
    ∷ field CHECKSUM-VECTOR 68 8
    ∷ field PAD 76 4
    ∷ [])
fields_of alert =
    common_fields
    ++ (field SCHEME 40 16
    ∷ field ERROR-CODE 56 4
    ∷ field ALERT-VECTOR 60 6
    ∷ field PAD 66 2
    ∷ field PAD 68 4
    ∷ [])

abbrev pub no_field : Field
no_field = field 0 0 0

abbrev pub field_at : Shape → ℕ → Field
field_at shape k = get_or (fields_of shape) k no_field

unfoldable pub number_at : ℕ → List ℕ → ℕ → ℕ
number_at size m at = cond (ltb size 4) (le 2 m at) (le 4 m at)

unfoldable pub field_entry : ℕ → ℕ → List ℕ → ℕ → ℕ → ℕ → ℕ → Entry
field_entry p i m what k at size = record { what = what; message = i; number = k; value = number_at size m at; place = p + at; length = size }

abbrev pub message_entry : ℕ → ℕ → List ℕ → Entry
message_entry p i m = record { what = MESSAGE; message = i; number = 0; value = (head_of m).kind; place = p; length = length m }

unfoldable pub header_entry : ℕ → ℕ → List ℕ → Shape → ℕ → Entry
header_entry p i m shape k = field_entry p i m (field_at shape k).what 0 (field_at shape k).at (field_at shape k).size

-- "by number from 0 (the header's in order, then the nested)"
abbrev pub vector_what : Shape → ℕ → ℕ
vector_what nego k = cond (eqb k 0) SCHEMES (cond (eqb k 1) EXTENSIONS EXTENSION-VALUE)
vector_what exchange k = EXCHANGE
vector_what verify k = CHECKSUM-VALUE
vector_what alert k = cond (eqb k 0) ALERTS ALERT-VALUE

abbrev pub vector_number : Shape → ℕ → ℕ
vector_number nego k = k - 2
vector_number exchange k = 0
vector_number verify k = 0
vector_number alert k = k - 1

-- "each vector's token place (an empty one's is its message's) and length in octets"
unfoldable pub vector_entry : ℕ → ℕ → List ℕ → Shape → ℕ → Entry
vector_entry p i m shape k = record {
  what = vector_what shape k;
  message = i;
  number = vector_number shape k;
  value = (vector_in m k).offset.0;
  place = vector_place p (vector_in m k);
  length = extent (vector_in m k);
}

abbrev pub ids_vector : Shape → List ℕ → Vector
ids_vector nego m = scheme_vector m
ids_vector exchange m = no_vector
ids_vector verify m = no_vector
ids_vector alert m = no_vector

abbrev pub array_vector : Shape → List ℕ → Vector
array_vector nego m = extension_vector m
array_vector exchange m = no_vector
array_vector verify m = no_vector
array_vector alert m = alert_vector m

abbrev pub type_what : Shape → ℕ
type_what nego = EXTENSION-TYPE
type_what exchange = 0
type_what verify = 0
type_what alert = ALERT-TYPE

abbrev pub value_what : Shape → ℕ
value_what nego = EXTENSION-VALUE-VECTOR
value_what exchange = 0
value_what verify = 0
value_what alert = ALERT-VALUE-VECTOR

-- "Elements: scheme 16 octets; extension 12 (type 4, octet vector 8); alert 12 (the same shape)."
abbrev pub id_entry : ℕ → ℕ → List ℕ → Shape → ℕ → Entry
id_entry p i m shape k = field_entry p i m SCHEME k ((ids_vector shape m).offset.0 + 16 * k) 16

abbrev pub type_entry : ℕ → ℕ → List ℕ → Shape → ℕ → Entry
type_entry p i m shape k = field_entry p i m (type_what shape) k ((array_vector shape m).offset.0 + 12 * k) 4

abbrev pub value_entry : ℕ → ℕ → List ℕ → Shape → ℕ → Entry
value_entry p i m shape k = field_entry p i m (value_what shape) k ((array_vector shape m).offset.0 + 12 * k + 4) 8

unfoldable pub listed : (ℕ → Entry) → ℕ → ℕ → List Entry
listed f zero k = []
listed f (suc n) k = f k ∷ listed f n (k + 1)

abbrev pub elements_in : ℕ → ℕ → List ℕ → Shape → List Entry
elements_in p i m shape =
    listed (type_entry p i m shape) (array_vector shape m).count 0 ++ listed (value_entry p i m shape) (array_vector shape m).count 0

abbrev pub lists_in : ℕ → ℕ → List ℕ → Shape → List Entry
lists_in p i m shape = listed (id_entry p i m shape) (ids_vector shape m).count 0 ++ elements_in p i m shape

abbrev pub body_in : ℕ → ℕ → List ℕ → Shape → List Entry
body_in p i m shape = listed (vector_entry p i m shape) (length (vectors_in m)) 0 ++ lists_in p i m shape

unfoldable pub shaped_in : ℕ → ℕ → List ℕ → Shape → List Entry
shaped_in p i m shape = message_entry p i m ∷ (listed (header_entry p i m shape) (length (fields_of shape)) 0 ++ body_in p i m shape)

abbrev pub entries_in : ℕ → ℕ → List ℕ → List Entry
entries_in p i m = shaped_in p i m (shape_of (head_of m).kind)

unfoldable pub entries_from : ℕ → List Placed → List Entry
entries_from i [] = []
entries_from i (m ∷ ms) = entries_in m.place i m.octets ++ entries_from (i + 1) ms

abbrev pub entries_of : List Placed → List Entry
entries_of ms = entries_from 0 ms

-- "All numbers are little endian."
unfoldable pub entry_octets : List Entry → List ℕ
entry_octets [] = []
entry_octets (e ∷ es) = numbers (e.what ∷ e.message ∷ e.number ∷ e.value ∷ e.place ∷ e.length ∷ []) ++ entry_octets es
