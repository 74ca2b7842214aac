-- What a host is answered in numbers: of a token, its messages and their vectors. Document 02, C-17.
--
-- Glossary
--   Reply A                what a call gives, or the number of its refusal
--   and_then r f           the reply that f gives behind r; a refusal stays
--   reading_reply          the messages of a reading, or its refusal; messages_reply s: those of the token s
--   item_at xs k           item k of a list, 19 beyond it
--   fits room v            the octets v, 16 where they don't fit into the room
--   message_in s k         message k of the token s
--   answer_of r            a reply in numbers as one signed number: a refusal is its number negated
--   told r                 what an answer of src/ comes to as one signed number; Tells r z: it is z, and its number is short enough for that
--   Lent                   an answer, with the caller's buffer afterwards; lent gives it for those of src/
--   TellsLent r d w        an answer of src/, with the caller's buffer d afterwards, tells w
--   written_in d r         the octets of a reply at the front of the buffer d, their number as answer; a refusal leaves the buffer as it was
--   messages_answer s      the number of messages
--   fault_place r          the place of a reading's refusal, 0 where it accepts; place_answer s: that of the token s
--   field_answer s k i     field i of message k: 0 token place, 1 type, 2 sequence number, 3 header length, 4 message length
--   conversation_answer s  k d   the conversation of message k, at the front of the buffer d
--   vectors_answer s k     the number of vectors of message k
--   vector_place_answer s k i   the token place of vector i of message k; vector_length_answer: its length in octets
--   table_answer s d       the table of all messages, at the front of the buffer d
--   FrontAccepted          what lies before the message at fault, where anything does, is an accepted token
use Rattle.std.specs.Prelude.{ℕ, zero, suc, ◌<◌, ◌^◌, ◌≡◌, cond, List, [], ◌∷◌, length, take, leb, ℤ, pos, neg_ℤ, Result, Ok, Err, IfOk}
use Rattle.refusal.specs.declared.Refusal.{Refusal}
use Rattle.refusal.specs.Refusals.{number_of}
use Rattle.vector.specs.Vector.{extent}
use Rattle.message.specs.Layout.{head_of}
use Rattle.token.specs.Token.{Placed, Reading, Accepted, Refused, token_of}
use Rattle.token.specs.Walk.{Accepts}
use Rattle.coverage.specs.Coverage.{vectors_in}
use Rattle.put.specs.Put.{put}
use Rattle.table.specs.Table.{fields_in, vector_place, table_of}

pub data Reply (A : Type 0) : Type 0 where
  given : A → Reply A
  refused : ℕ → Reply A

-- the order of the refusals is the order in which replies follow one another
abbrev pub and_then : {A B : Type 0} → Reply A → (A → Reply B) → Reply B
and_then (given x) f = f x
and_then (refused n) f = refused n

-- "Refusals: the structural ones"
abbrev pub reading_reply : Reading → Reply (List Placed)
reading_reply (Accepted ms) = given ms
reading_reply (Refused n place) = refused n

abbrev pub messages_reply : List ℕ → Reply (List Placed)
messages_reply s = reading_reply (token_of s)

-- "then 19 for an index or first line beyond the list"
unfoldable pub item_at : {A : Type 0} → List A → ℕ → Reply A
item_at [] k = refused 19
item_at (x ∷ xs) zero = given x
item_at (x ∷ xs) (suc k) = item_at xs k

-- "then 16 where the window's first line doesn't fit"
abbrev pub fits : ℕ → List ℕ → Reply (List ℕ)
fits room v = cond (leb (length v) room) (given v) (refused 16)

-- "a message's header fields by its place in the list"
unfoldable pub message_in : List ℕ → ℕ → Reply Placed
message_in s k = and_then (messages_reply s) (λ ms. item_at ms k)

-- "a handful of functions .. on numbers and byte slices"
abbrev pub answer_of : Reply ℕ → ℤ
answer_of (given n) = pos n
answer_of (refused n) = neg_ℤ (pos n)

abbrev pub told : Result ℕ Refusal → ℤ
told (Ok n) = pos n
told (Err e) = neg_ℤ (pos (number_of e))

abbrev pub Tells : Result ℕ Refusal → ℤ → Type 0
Tells r z = (told r ≡ z) × IfOk r (λ n. n < 2 ^ 63)

pub record Lent : Type 0 where
  pub answer : ℤ
  pub buffer : List ℕ

abbrev pub lent : ℤ → List ℕ → Lent
lent z d = record { answer = z; buffer = d }

abbrev pub TellsLent : Result ℕ Refusal → List ℕ → Lent → Type 0
TellsLent r d w = (lent (told r) d ≡ w) × IfOk r (λ n. n < 2 ^ 63)

-- "with the octets written as answer; their buffer behind these stays as it was"
abbrev pub written_in : List ℕ → Reply (List ℕ) → Lent
written_in d (given v) = lent (pos (length v)) (put d 0 v)
written_in d (refused n) = lent (neg_ℤ (pos n)) d

-- "structural reading with number of messages or refusal"
abbrev pub messages_answer : List ℕ → ℤ
messages_answer s = answer_of (and_then (messages_reply s) (λ ms. given (length ms)))

-- document 01: "Each returns its number and the token place of the message at fault"
abbrev pub fault_place : Reading → ℕ
fault_place (Accepted ms) = 0
fault_place (Refused n place) = place

abbrev pub place_answer : List ℕ → ℤ
place_answer s = pos (fault_place (token_of s))

abbrev pub field_answer : List ℕ → ℕ → ℕ → ℤ
field_answer s k i = answer_of (and_then (message_in s k) (λ m. item_at (fields_in m) i))

abbrev pub conversation_answer : List ℕ → ℕ → List ℕ → Lent
conversation_answer s k d = written_in d (and_then (message_in s k) (λ m. fits (length d) (head_of m.octets).conversation))

-- "by number from 0 (the header's in order, then the nested)"
abbrev pub vectors_answer : List ℕ → ℕ → ℤ
vectors_answer s k = answer_of (and_then (message_in s k) (λ m. given (length (vectors_in m.octets))))

-- "each vector's token place (an empty one's is its message's) and length in octets"
abbrev pub vector_place_answer : List ℕ → ℕ → ℕ → ℤ
vector_place_answer s k i = answer_of (and_then (message_in s k) (λ m. and_then (item_at (vectors_in m.octets) i) (λ v. given (vector_place m.place v))))

abbrev pub vector_length_answer : List ℕ → ℕ → ℕ → ℤ
vector_length_answer s k i = answer_of (and_then (message_in s k) (λ m. and_then (item_at (vectors_in m.octets) i) (λ v. given (extent v))))

-- all fields, and all vectors, in one call
abbrev pub table_answer : List ℕ → List ℕ → Lent
table_answer s d = written_in d (and_then (messages_reply s) (λ ms. fits (length d) (table_of ms)))

-- so a host can show the messages before the fault
abbrev pub FrontAccepted : Type 0
FrontAccepted = (s : List ℕ) (n p : ℕ) → token_of s ≡ Refused n p → 0 < p → Accepts (take p s)
