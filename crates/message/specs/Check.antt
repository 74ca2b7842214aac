-- The checks of one message: one ordered table of (number, test) over what the message says. Document 01, "Refusal numbers".
--
-- Glossary
--   Row                    a test, with the number that refuses where it fails
--   all_pass               every test of a table holds; first_failing: the number of the first that fails, 0 where none does
--   FirstFails n rs        the first test of a table that fails has the number n
--   RefusesFirst           a table that does not pass refuses with the first that fails; FirstRefuses: and the first that fails is what it refuses with
--   common_rows n h        2 to 6, of a head with n octets left from the message's first on; SIGNATURE: the one that 3 asks for
--   version_ok             10; all_keep_rule: 11; none_critical, critical_ok: 12; checksum_ok: 13
--   content_rows           10 to 13, of a message of `len` octets
--   body_rows, refusal_of  10 to 13 of a message of a given layout, and the first of them that refuses it; front_rows s: of the message at the front of s
--   message_rows s         2 to 6 and 10 to 13 of the message at the front of s: all that can be asked of a message by itself
--   Verdict                what a message's reading says: its header's fields, or a refusal's number; said gives it for the answers of src/
--   verdict rs v           the verdict v, where every row of rs passes
--   fields_of h            the header's fields that later checks and the listing go by
--   header_verdict         the verdict by 2 to 6; body_verdict: by 10 to 13; message_verdict: by both
--   Passed s h             the header of the message at the front of s passed 2 to 6 as h; HeaderPassed: as each that reading answers did
use Rattle.std.specs.Prelude.{ℕ, ◌≤◌, ◌≡◌, Bool, true, false, cond, not, ◌&&◌, ◌⊎◌, List, [], ◌∷◌, ◌++◌, length, leb, eqb, Result, Ok, Err}
use Rattle.octets.specs.Octets.{le, signed32, negative}
use Rattle.refusal.specs.declared.Refusal.{Refusal}
use Rattle.refusal.specs.Refusals.{number_of}
use Rattle.vector.specs.declared.Vector.{Vector}
use Rattle.vector.specs.Vector.{keeps_rule}
use Rattle.message.specs.declared.Header.{Header}
use Rattle.message.specs.Layout.{Shape, shape_of, header_of, signature, Head, head_of, Element, Content, Nego, Exchange, Verify, Alert, content_of, vectors_of, size, front}

pub record Row : Type 0 where
  pub number : ℕ
  pub test : Bool

abbrev pub all_pass : List Row → Bool
all_pass [] = true
all_pass (r ∷ rs) = r.test && all_pass rs

abbrev pub first_failing : List Row → ℕ
first_failing [] = 0
first_failing (r ∷ rs) = cond r.test (first_failing rs) r.number

-- "given exactly when": the number's test is the first that fails, in the table's order
abbrev pub FirstFails : ℕ → List Row → Type 0
FirstFails n [] = ⊥
FirstFails n (r ∷ rs) = ((r.test ≡ false) × (r.number ≡ n)) ⊎ ((r.test ≡ true) × FirstFails n rs)

abbrev pub RefusesFirst : Type 0
RefusesFirst = (rs : List Row) → all_pass rs ≡ false → FirstFails (first_failing rs) rs

abbrev pub FirstRefuses : Type 0
FirstRefuses = (n : ℕ) (rs : List Row) → FirstFails n rs → (all_pass rs ≡ false) × (first_failing rs ≡ n)

-- 3: "signature differs"; the signature as the number that its octets are
abbrev pub SIGNATURE : ℕ
SIGNATURE = le 8 signature 0

unfoldable pub common_rows : ℕ → Head → List Row
common_rows n h =
    record { number = 2; test = leb 40 n }
    ∷ record { number = 3; test = eqb h.signature SIGNATURE }
    ∷ record { number = 4; test = leb h.kind 7 }
    ∷ record { number = 5; test = eqb h.header (header_of (shape_of h.kind)) }
    ∷ record { number = 6; test = leb h.header h.length }
    ∷ record { number = 6; test = leb h.length n }
    ∷ []

-- 10: "NEGO version isn't 0"
abbrev pub version_ok : Content → Bool
version_ok (Nego random version schemes extensions elements) = eqb version 0
version_ok (Exchange scheme value) = true
version_ok (Verify scheme headerLength checksumScheme type value) = true
version_ok (Alert scheme code alerts elements) = true

-- 11: "a vector breaks its rule"; nested ones too, and all of them before 12
unfoldable pub all_keep_rule : ℕ → ℕ → List Vector → Bool
all_keep_rule header len [] = true
all_keep_rule header len (v ∷ vs) = keeps_rule header len v && all_keep_rule header len vs

-- 12: "Every negative extension type is critical. None is known, so all critical ones are refused."
unfoldable pub none_critical : List Element → Bool
none_critical [] = true
none_critical (e ∷ es) = not (negative (signed32 e.type)) && none_critical es

abbrev pub critical_ok : Content → Bool
critical_ok (Nego random version schemes extensions elements) = none_critical elements
critical_ok (Exchange scheme value) = true
critical_ok (Verify scheme headerLength checksumScheme type value) = true
critical_ok (Alert scheme code alerts elements) = true

-- 13: "checksum header length isn't 20 or its scheme isn't 1"
abbrev pub checksum_ok : Content → Bool
checksum_ok (Nego random version schemes extensions elements) = true
checksum_ok (Exchange scheme value) = true
checksum_ok (Verify scheme headerLength checksumScheme type value) = eqb headerLength 20 && eqb checksumScheme 1
checksum_ok (Alert scheme code alerts elements) = true

unfoldable pub content_rows : ℕ → ℕ → Content → List Row
content_rows header len c =
    record { number = 10; test = version_ok c }
    ∷ record { number = 11; test = all_keep_rule header len (vectors_of c) }
    ∷ record { number = 12; test = critical_ok c }
    ∷ record { number = 13; test = checksum_ok c }
    ∷ []

-- C-11: "the reader passes over pad octets", so no row looks at them, and none has the number 9
unfoldable pub body_rows : Shape → ℕ → List ℕ → List Row
body_rows shape len m = content_rows (header_of shape) len (content_of shape m)

unfoldable pub refusal_of : Shape → List ℕ → ℕ
refusal_of shape m = first_failing (body_rows shape (length m) m)

-- the body of the message at the front of s
unfoldable pub front_rows : List ℕ → List Row
front_rows s = body_rows (shape_of (head_of s).kind) (size s) (front s)

unfoldable pub message_rows : List ℕ → List Row
message_rows s = common_rows (length s) (head_of s) ++ front_rows s

pub data Verdict : Type 0 where
  read : Header → Verdict
  refused : ℕ → Verdict

abbrev pub verdict : List Row → Verdict → Verdict
verdict [] v = v
verdict (r ∷ rs) v = cond r.test (verdict rs v) (refused r.number)

-- document 01's number and values, for each case of the answer
abbrev pub said : Result Header Refusal → Verdict
said (Ok h) = read h
said (Err e) = refused (number_of e)

-- the header's fields that later checks and the listing go by
abbrev pub fields_of : Head → Header
fields_of h = record { kind = record { 0 = h.kind }; sequence = h.sequence; header = h.header; length = h.length }

unfoldable pub header_verdict : List ℕ → Verdict
header_verdict s = verdict (common_rows (length s) (head_of s)) (read (fields_of (head_of s)))

-- 10 to 13 of the message at the front of s, whose header passed as h
unfoldable pub body_verdict : List ℕ → Header → Verdict
body_verdict s h = verdict (front_rows s) (read h)

unfoldable pub message_verdict : List ℕ → Verdict
message_verdict s = verdict (message_rows s) (read (fields_of (head_of s)))

-- a header that passed 2 to 6, and the octets that it is the header of
pub record Passed (s : List ℕ) (h : Header) : Type 0 where
  pub is : h ≡ fields_of (head_of s)
  pub forty : 40 ≤ length s
  pub header : header_of (shape_of h.kind.0) ≤ h.length
  pub within : h.length ≤ length s

abbrev pub HeaderPassed : Type 0
HeaderPassed = (s : List ℕ) (h : Header) → header_verdict s ≡ read h → Passed s h
