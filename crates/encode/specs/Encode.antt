-- The written messages, as octets. Document 01, "Layouts", and of "Who may send what, and when" its last paragraph: "Written messages put the
-- payload directly after the header". Written pads and the version are zero. `Heading` is the struct of src/: what a message of any kind is written
-- with, its kind, its sequence number and its conversation.
--
-- Glossary
--   Contents         what is written besides, one value a layout: an Offer, a Payload, a Checksum or an Alarm
--   nego_of, exchange_of, verify_of, alert_of   the contents of a layout, by their parts
--   Whole c          the ids of the contents have 16 octets and random has 32
--   size_of c        the length of a message with the contents c
--   head_fields h n  the fields of the common header of a message of n octets
--   octet_vector_fields, vector_fields   the fields of a vector of octets, and of one of elements
--   nego_fields, alert_fields   the fields of a NEGO's header and of an ALERT's, behind the common one
--   body_fields c    the fields behind the common header
--   encoded h c      the message: all its fields, joined
--   has_kind c k     the type number k is of the contents' layout
--   fits_fields c    a scheme list is one of whole ids, extensions and alerts keep their limits, and count and length fit their fields
--   encodable h c    both of these: there is such a message
--   Outcome          what a writer leaves: the next place and the lent octets, or the lent octets with nothing written
--   told, storing    the outcome of an answer of src/, the next place or none, and of writing a message into d at a place; storing_handed: where
--                    extensions or alerts are handed over apart
use Rattle.std.specs.Prelude.{◌≡◌, ℕ, ◌+◌, ◌/◌, ◌%◌, Bool, cond, ◌&&◌, List, [], ◌∷◌, ◌++◌, length, leb, eqb, ℤ, Option, Some, None}
use Rattle.message.specs.Layout.{shape_of, header_of, signature}
use Rattle.put.specs.Put.{put, octets_of, unsigned32, joined}
use Rattle.elements.specs.Elements.{Item, offset_of, item_octets, items_size, items_fit}
use Rattle.encode.specs.declared.Heading.{Heading}

-- INITIATOR_NEGO, ACCEPTOR_NEGO: "schemes", 16 octets an id; C-22: "up to 8 extensions"
pub record Offer : Type 0 where
  pub random : List ℕ
  pub schemes : List ℕ
  pub extensions : List Item

-- INITIATOR_META_DATA, ACCEPTOR_META_DATA, CHALLENGE, AP_REQUEST: "the exchange"
pub record Payload : Type 0 where
  pub scheme : List ℕ
  pub value : List ℕ

-- VERIFY: "checksum value"
pub record Checksum : Type 0 where
  pub scheme : List ℕ
  pub type : ℤ
  pub value : List ℕ

-- ALERT; C-22: "up to 8 alerts likewise"
pub record Alarm : Type 0 where
  pub scheme : List ℕ
  pub code : ℤ
  pub alerts : List Item

pub data Contents : Type 0 where
  of_nego : Offer → Contents
  of_exchange : Payload → Contents
  of_verify : Checksum → Contents
  of_alert : Alarm → Contents

abbrev pub nego_of : (random schemes : List ℕ) (extensions : List Item) → Contents
nego_of random schemes extensions = of_nego (record { random = random; schemes = schemes; extensions = extensions })

abbrev pub exchange_of : (scheme value : List ℕ) → Contents
exchange_of scheme value = of_exchange (record { scheme = scheme; value = value })

abbrev pub verify_of : (scheme : List ℕ) (type : ℤ) (value : List ℕ) → Contents
verify_of scheme type value = of_verify (record { scheme = scheme; type = type; value = value })

abbrev pub alert_of : (scheme : List ℕ) (code : ℤ) (alerts : List Item) → Contents
alert_of scheme code alerts = of_alert (record { scheme = scheme; code = code; alerts = alerts })

abbrev pub Whole : Contents → Type 0
Whole (of_nego o) = length o.random ≡ 32
Whole (of_exchange p) = length p.scheme ≡ 16
Whole (of_verify k) = length k.scheme ≡ 16
Whole (of_alert p) = length p.scheme ≡ 16

abbrev pub size_of : Contents → ℕ
size_of (of_nego o) = 96 + length o.schemes + items_size o.extensions
size_of (of_exchange p) = 64 + length p.value
size_of (of_verify k) = 80 + length k.value
size_of (of_alert p) = 72 + items_size p.alerts

-- "Common header, 40 octets: signature 0 .., type 8, sequence 12, header length 16, message length 20, conversation 24."
abbrev pub head_fields : Heading → ℕ → List (List ℕ)
head_fields h size =
    signature
    ∷ octets_of 4 h.kind.0
    ∷ octets_of 4 h.sequence
    ∷ octets_of 4 (header_of (shape_of h.kind.0))
    ∷ octets_of 4 size
    ∷ h.conversation
    ∷ []

-- "An octet vector is offset (4), length (4)."
abbrev pub octet_vector_fields : ℕ → ℕ → List (List ℕ)
octet_vector_fields offset size = octets_of 4 offset ∷ octets_of 4 size ∷ []

-- "A scheme, extension or alert vector is offset (4), count (2), pad (2)."
abbrev pub vector_fields : ℕ → ℕ → List (List ℕ)
vector_fields offset count = octets_of 4 offset ∷ octets_of 2 count ∷ octets_of 2 0 ∷ []

-- "random 40 (32 octets), version 72 (8), scheme vector 80, extension vector 88": so many schemes at 96, so many extensions from an offset on
abbrev pub nego_fields : List ℕ → ℕ → ℕ → ℕ → List (List ℕ)
nego_fields random schemes offset extensions = random ∷ octets_of 8 0 ∷ (vector_fields 96 schemes ++ vector_fields offset extensions)

-- "scheme 40, error code 56, alert vector 60, pad 68 to 71"
abbrev pub alert_fields : List ℕ → ℤ → ℕ → ℕ → List (List ℕ)
alert_fields scheme code offset alerts = scheme ∷ octets_of 4 (unsigned32 code) ∷ (vector_fields offset alerts ++ (octets_of 4 0 ∷ []))

-- C-22: "arrays after the schemes and values after the array, in order, without gaps; an empty array or value has offset 0 and size 0", of alerts "their
-- array at 72". "An empty exchange or checksum value has its header length as offset and size 0."; so has an empty scheme list: offset 96, count 0.
-- "checksum header length 56 (is 20), checksum scheme 60 (is 1)".
abbrev pub body_fields : Contents → List (List ℕ)
body_fields (of_nego o) =
    nego_fields o.random (length o.schemes / 16) (offset_of (length o.extensions) (96 + length o.schemes)) (length o.extensions)
    ++ (o.schemes ∷ item_octets (96 + length o.schemes) o.extensions ∷ [])
body_fields (of_exchange p) = p.scheme ∷ (octet_vector_fields 64 (length p.value) ++ (p.value ∷ []))
body_fields (of_verify k) =
    k.scheme
    ∷ octets_of 4 20
    ∷ octets_of 4 1
    ∷ octets_of 4 (unsigned32 k.type)
    ∷ (octet_vector_fields 80 (length k.value) ++ (octets_of 4 0 ∷ k.value ∷ []))
body_fields (of_alert p) =
    alert_fields p.scheme p.code (offset_of (length p.alerts) 72) (length p.alerts) ++ (item_octets 72 p.alerts ∷ [])

unfoldable pub encoded : Heading → Contents → List ℕ
encoded h c = joined (head_fields h (size_of c) ++ body_fields c)

-- the table's first column
abbrev pub has_kind : Contents → ℕ → Bool
has_kind (of_nego o) kind = leb kind 1
has_kind (of_exchange p) kind = leb 2 kind && leb kind 5
has_kind (of_verify k) kind = eqb kind 6
has_kind (of_alert p) kind = eqb kind 7

-- Count is a 16-bit number: at most 65,535 schemes, 1,048,560 octets. Message length is a 32-bit number: at most 4,294,967,295 octets, header included.
abbrev pub fits_fields : Contents → Bool
fits_fields (of_nego o) = eqb (length o.schemes % 16) 0 && (leb (length o.schemes) 1048560 && items_fit o.extensions)
fits_fields (of_exchange p) = leb (length p.value) 4294967231
fits_fields (of_verify k) = leb (length k.value) 4294967215
fits_fields (of_alert p) = items_fit p.alerts

unfoldable pub encodable : Heading → Contents → Bool
encodable h c = has_kind c h.kind.0 && fits_fields c

pub data Outcome : Type 0 where
  written : (next : ℕ) (octets : List ℕ) → Outcome
  unwritten : (octets : List ℕ) → Outcome

abbrev pub told : Option ℕ → List ℕ → Outcome
told (Some n) d = written n d
told None d = unwritten d

unfoldable pub storing : List ℕ → ℕ → Heading → Contents → Outcome
storing d at h c =
    cond (encodable h c && leb (at + length (encoded h c)) (length d))
    (written (at + length (encoded h c)) (put d at (encoded h c)))
    (unwritten d)

-- what is handed over apart, as types, sizes and joined values, is a list only where it keeps its limits: nothing is written where it doesn't
unfoldable pub storing_handed : Bool → List ℕ → ℕ → Heading → Contents → Outcome
storing_handed keeps d at h c = cond keeps (storing d at h c) (unwritten d)
