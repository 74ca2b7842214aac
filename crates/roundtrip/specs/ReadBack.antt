-- What the reader is to find in a written message: demand 2's round trip, as one record.
--
-- Glossary
--   types_fit xs          the types of items are numbers of 32 bits
--   InRange c             these, and a signed number of the contents, are of 32 bits
--   Sent h c              a message that can be written: encodable, with a sequence number of 32 bits and whole ids
--   shape_for c           the layout of the contents
--   head_read, content_read   the header and the content that reading finds; vector_of: a vector with its stored offset
--   placed_vector         the vector of what stands at a place: offset 0 where it is empty; elements_read q xs: the elements of xs, whose first value stands
--                         at q
--   nested_from           what the reader hands back of the values of n elements, from element k on
--   ordinary_in c         the contents have no critical extension
--   Shows c m             what the readers of vectors and signed numbers hand back of the message m is what was written
--   ReadsBack h c r       the written message, followed by any octets r, reads as what was written
--   Stands d at h c next  d'   the written message stands at `at` in d', which else is d; `next` is the place behind it
--   Outgoing              a message to write; octets_of_all gives the written messages of a list
--   InSequence q v ms     messages to write that are numbered on from q, of the conversation v; AllOrdinary: none has a critical extension
--   zeros, pads_zero      octets are zero; all pads are
--   PadsWritten           the pads of every message that can be written are zero
--   LeOctets              a number's octets read as that number; SignedBack: two's complement, there and back
--   ReadEncode            demand 2's round trip: every message that can be written reads back, whatever follows it; with a critical extension, as 12
--   CriticalRefused       a token in which a written message has a critical extension is refused with 12 at the place of the first such message
--   NegoBegins            what begins with a written NEGO reads as that NEGO: its type and its schemes
--   WrittenAccepted       a token of written messages is accepted, and its list is those messages
--   StoredStands          where a writer answers a next place, its message stands there, and no other octet has changed
use Rattle.std.specs.Prelude.{ℕ, zero, suc, ◌+◌, ◌*◌, ◌/◌, ◌<◌, ◌≤◌, ◌^◌, ◌≡◌, Bool, true, false, cond, ◌&&◌, List, [], ◌∷◌, ◌++◌, length, take, drop, get_or, eqb, ltb, ℤ}
use Rattle.std.specs.Int.Signed.{mag}
use Rattle.octets.specs.Octets.{le, signed32}
use Rattle.vector.specs.declared.Vector.{Vector}
use Rattle.vector.specs.Vector.{shown}
use Rattle.message.specs.Layout.{Shape, nego, exchange, verify, alert, header_of, Pad, pads_of, Head, head_of, front, Element, Content, Nego, Exchange, Verify, Alert, content_of, scheme_vector, extension_vector, exchange_vector, checksum_vector, alert_vector}
use Rattle.message.specs.Check.{SIGNATURE, read, refused, fields_of, message_verdict}
use Rattle.message.specs.Show.{ids_of, schemes_in, nested_of, checksum_type, error_code}
use Rattle.put.specs.Put.{octets_of, unsigned32}
use Rattle.elements.specs.Elements.{Item, offset_of, item_values, ordinary}
use Rattle.encode.specs.declared.Heading.{Heading}
use Rattle.token.specs.Token.{Accepted, Refused, token_of}
use Rattle.token.specs.Split.{join, placed_from}
use Rattle.encode.specs.Encode.{Contents, Offer, Whole, of_nego, of_exchange, of_verify, of_alert, size_of, encoded, encodable, written, storing}

abbrev pub types_fit : List Item → Bool
types_fit [] = true
types_fit (x ∷ xs) = ltb x.type 4294967296 && types_fit xs

abbrev pub InRange : Contents → Type 0
InRange (of_nego o) = types_fit o.extensions ≡ true
InRange (of_exchange p) = Unit {0}
InRange (of_verify k) = mag k.type < 2147483648
InRange (of_alert p) = (mag p.code < 2147483648) × (types_fit p.alerts ≡ true)

pub record Sent (h : Heading) (c : Contents) : Type 0 where
  pub can : encodable h c ≡ true
  pub number : h.sequence < 4294967296
  pub id : length h.conversation ≡ 16
  pub whole : Whole c

abbrev pub shape_for : Contents → Shape
shape_for (of_nego o) = nego
shape_for (of_exchange p) = exchange
shape_for (of_verify k) = verify
shape_for (of_alert p) = alert

abbrev pub head_read : Heading → Contents → Head
head_read h c = record {
  signature = SIGNATURE;
  kind = h.kind.0;
  sequence = h.sequence;
  header = header_of (shape_for c);
  length = size_of c;
  conversation = h.conversation;
}

abbrev pub vector_of : ℕ → ℕ → ℕ → Vector
vector_of size offset count = record { size = size; offset = record { 0 = offset }; count = count }

-- n elements or octets that stand at p
abbrev pub placed_vector : ℕ → ℕ → ℕ → Vector
placed_vector size p n = vector_of size (offset_of n p) n

-- C-22: "values after the array, in order, without gaps"
abbrev pub elements_read : ℕ → List Item → List Element
elements_read q [] = []
elements_read q (x ∷ xs) =
    record { type = x.type; value = placed_vector 1 q (length x.value) } ∷ elements_read (q + length x.value) xs

abbrev pub content_read : Contents → Content
content_read (of_nego o) =
    Nego o.random 0 (vector_of 16 96 (length o.schemes / 16)) (placed_vector 12 (96 + length o.schemes) (length o.extensions))
    (elements_read (96 + length o.schemes + 12 * length o.extensions) o.extensions)
content_read (of_exchange p) = Exchange p.scheme (vector_of 1 64 (length p.value))
content_read (of_verify k) = Verify k.scheme 20 1 (unsigned32 k.type) (vector_of 1 80 (length k.value))
content_read (of_alert p) =
    Alert p.scheme (unsigned32 p.code) (placed_vector 12 72 (length p.alerts)) (elements_read (72 + 12 * length p.alerts) p.alerts)

abbrev pub nested_from : ℕ → List ℕ → Vector → ℕ → ℕ → List (List ℕ)
nested_from header m v zero k = []
nested_from header m v (suc n) k = nested_of header m v k ∷ nested_from header m v n (k + 1)

abbrev pub Shows : Contents → List ℕ → Type 0
Shows (of_nego o) m =
    (shown 96 m (scheme_vector m) ≡ o.schemes)
    × ((schemes_in m ≡ ids_of o.schemes) × (nested_from 96 m (extension_vector m) (length o.extensions) 0 ≡ item_values o.extensions))
Shows (of_exchange p) m = shown 64 m (exchange_vector m) ≡ p.value
Shows (of_verify k) m = (shown 80 m (checksum_vector m) ≡ k.value) × (checksum_type m ≡ k.type)
Shows (of_alert p) m =
    (nested_from 72 m (alert_vector m) (length p.alerts) 0 ≡ item_values p.alerts) × (error_code m ≡ p.code)

abbrev pub ordinary_in : Contents → Bool
ordinary_in (of_nego o) = ordinary o.extensions
ordinary_in (of_exchange p) = true
ordinary_in (of_verify k) = true
ordinary_in (of_alert p) = true

pub record ReadsBack (h : Heading) (c : Contents) (r : List ℕ) : Type 0 where
  pub size : length (encoded h c) ≡ size_of c
  pub head : head_of (encoded h c ++ r) ≡ head_read h c
  pub front : front (encoded h c ++ r) ≡ encoded h c
  pub content : content_of (shape_for c) (encoded h c) ≡ content_read c
  pub verdict : message_verdict (encoded h c ++ r) ≡ cond (ordinary_in c) (read (fields_of (head_read h c))) (refused 12)
  pub shows : Shows c (encoded h c)

pub record Stands (d : List ℕ) (at : ℕ) (h : Heading) (c : Contents) (next : ℕ) (d' : List ℕ) : Type 0 where
  pub can : encodable h c ≡ true
  pub after : next ≡ at + length (encoded h c)
  pub room : next ≤ length d
  pub before : take at d' ≡ take at d
  pub from : drop at d' ≡ encoded h c ++ drop next d

pub record Outgoing : Type 0 where
  pub heading : Heading
  pub contents : Contents

abbrev pub octets_of_all : List Outgoing → List (List ℕ)
octets_of_all [] = []
octets_of_all (m ∷ ms) = encoded m.heading m.contents ∷ octets_of_all ms

-- "Sequence numbers .. rise by one"; one conversation
abbrev pub InSequence : ℕ → List ℕ → List Outgoing → Type 0
InSequence q v [] = Unit {0}
InSequence q v (m ∷ ms) =
    (Sent m.heading m.contents × InRange m.contents)
    × ((m.heading.sequence ≡ q) × ((m.heading.conversation ≡ v) × InSequence (q + 1) v ms))

unfoldable pub zeros : ℕ → List ℕ → ℕ → Bool
zeros zero m at = true
zeros (suc k) m at = zeros k m at && eqb (get_or m (at + k) 0) 0

unfoldable pub pads_zero : List ℕ → List Pad → Bool
pads_zero m [] = true
pads_zero m (p ∷ ps) = zeros p.size m p.at && pads_zero m ps

-- C-11: "writers still send zeros"
abbrev pub PadsWritten : Type 0
PadsWritten = (h : Heading) (c : Contents) → Sent h c → InRange c → pads_zero (encoded h c) (pads_of (shape_for c)) ≡ true

abbrev pub LeOctets : Type 0
LeOctets = (k x : ℕ) (t : List ℕ) → x < 256 ^ k → le k (octets_of k x ++ t) 0 ≡ x

abbrev pub SignedBack : Type 0
SignedBack = (z : ℤ) → mag z < 2147483648 → signed32 (unsigned32 z) ≡ z

-- demand 2: "a written message reads back as the same fields"; C-22: it "covers the new fields for types that aren't critical"
abbrev pub ReadEncode : Type 0
ReadEncode = (h : Heading) (c : Contents) → Sent h c → InRange c → (r : List ℕ) → ReadsBack h c r

abbrev pub NegoBegins : Type 0
NegoBegins =
    (h : Heading) (o : Offer) → Sent h (of_nego o) → (r : List ℕ)
    → ((head_of (encoded h (of_nego o) ++ r)).kind ≡ h.kind.0) × (schemes_in (front (encoded h (of_nego o) ++ r)) ≡ ids_of o.schemes)

abbrev pub AllOrdinary : List Outgoing → Type 0
AllOrdinary [] = Unit {0}
AllOrdinary (m ∷ ms) = (ordinary_in m.contents ≡ true) × AllOrdinary ms

abbrev pub WrittenAccepted : Type 0
WrittenAccepted =
    (q : ℕ) (v : List ℕ) (m : Outgoing) (ms : List Outgoing) → InSequence q v (m ∷ ms) → AllOrdinary (m ∷ ms)
    → length (join (octets_of_all (m ∷ ms))) ≤ 65535
    → token_of (join (octets_of_all (m ∷ ms))) ≡ Accepted (placed_from 0 (octets_of_all (m ∷ ms)))

-- C-22: "For a critical one the structural reading answers 12": for ms, then m, then any octets
abbrev pub CriticalRefused : Type 0
CriticalRefused =
    (q : ℕ) (v : List ℕ) (ms : List Outgoing) (m : Outgoing) (r : List ℕ) → InSequence q v ms → InSequence (q + length ms) v (m ∷ [])
    → AllOrdinary ms → ordinary_in m.contents ≡ false
    → length (join (octets_of_all ms) ++ (encoded m.heading m.contents ++ r)) ≤ 65535
    → token_of (join (octets_of_all ms) ++ (encoded m.heading m.contents ++ r)) ≡ Refused 12 (length (join (octets_of_all ms)))

abbrev pub StoredStands : Type 0
StoredStands =
    (d : List ℕ) (at : ℕ) (h : Heading) (c : Contents) (next : ℕ) (d' : List ℕ) → storing d at h c ≡ written next d' → Stands d at h c next d'
