-- What is proved of the octets at fault: all fields before it pass, and this one doesn't.
--
-- Glossary
--   Check              a test of one field: the number that refuses where it fails, the test, and the field's spot; check makes one
--   common_checks n h  2 to 6 of a head with n octets left, field by field; order_checks h q v: 7 and 8
--   vector_checks      11, vector by vector, the first of them having the number k; critical_checks: 12, extension by extension
--   content_checks     10 to 13 of a message m of `len` octets, by its layout
--   checks_of s q v    all of the message at the front of s, in order: the tests of `next_rows`, field by field
--   FirstCheck n x cs  the first check that fails has the number n and the spot x: all before it pass
--   Within x n         the spot x has two octets at the least, and lies in n octets
--   FaultWithin        of a refused token with a field at fault, that field lies in what is left of it: fault_entry shows it
--   FaultFirst         of a token that is refused with n at a place, the field that spot_of names for n is the one whose check is the first to fail, for the
--                      message at that place
use Rattle.std.specs.Prelude.{ℕ, ◌+◌, ◌*◌, ◌<◌, ◌≤◌, ◌≡◌, Bool, true, false, not, ◌⊎◌, List, [], ◌∷◌, ◌++◌, length, drop, leb, eqb}
use Rattle.octets.specs.Octets.{le, signed32, negative, same_id}
use Rattle.vector.specs.declared.Vector.{Vector}
use Rattle.vector.specs.Vector.{keeps_rule, part}
use Rattle.message.specs.Layout.{Shape, nego, exchange, verify, alert, shape_of, header_of, Head, head_of, Element, elements_of, extension_vector, content_of, vectors_of, size, front}
use Rattle.message.specs.Check.{SIGNATURE as SIGNATURE-NUMBER}
use Rattle.message.specs.Show.{first_of}
use Rattle.token.specs.Token.{Refused, token_of}
use Rattle.entries.specs.Names.{SIGNATURE, TYPE, SEQUENCE, HEADER-LENGTH, MESSAGE-LENGTH, CONVERSATION, VERSION, CHECKSUM-HEADER, CHECKSUM-SCHEME, EXTENSION-TYPE}
use Rattle.faults.specs.declared.Spot.{Spot}
use Rattle.faults.specs.Faults.{spot, no_spot, vector_spot, spot_of}

pub record Check : Type 0 where
  pub number : ℕ
  pub test : Bool
  pub field : Spot

abbrev pub check : ℕ → Bool → Spot → Check
check n b x = record { number = n; test = b; field = x }

unfoldable pub common_checks : ℕ → Head → List Check
common_checks n h =
    check 2 (leb 40 n) no_spot
    ∷ check 3 (eqb h.signature SIGNATURE-NUMBER) (spot SIGNATURE 0 0 8)
    ∷ check 4 (leb h.kind 7) (spot TYPE 0 8 4)
    ∷ check 5 (eqb h.header (header_of (shape_of h.kind))) (spot HEADER-LENGTH 0 16 4)
    ∷ check 6 (leb h.header h.length) (spot MESSAGE-LENGTH 0 20 4)
    ∷ check 6 (leb h.length n) (spot MESSAGE-LENGTH 0 20 4)
    ∷ []

unfoldable pub order_checks : Head → ℕ → List ℕ → List Check
order_checks h q v = check 7 (eqb h.sequence q) (spot SEQUENCE 0 12 4) ∷ check 8 (same_id h.conversation v) (spot CONVERSATION 0 24 16) ∷ []

unfoldable pub vector_checks : Shape → ℕ → List ℕ → List Vector → ℕ → List Check
vector_checks shape len m [] k = []
vector_checks shape len m (v ∷ vs) k = check 11 (keeps_rule (header_of shape) len v) (vector_spot shape m k) ∷ vector_checks shape len m vs (k + 1)

unfoldable pub critical_checks : List ℕ → List Element → ℕ → List Check
critical_checks m [] k = []
critical_checks m (e ∷ es) k =
    check 12 (not (negative (signed32 e.type))) (spot EXTENSION-TYPE k ((extension_vector m).offset.0 + 12 * k) 4) ∷ critical_checks m es (k + 1)

unfoldable pub content_checks : Shape → ℕ → List ℕ → List Check
content_checks nego len m =
    check 10 (eqb (le 8 m 72) 0) (spot VERSION 0 72 8)
    ∷ (vector_checks nego len m (vectors_of (content_of nego m)) 0 ++ critical_checks m (elements_of (part m (extension_vector m))) 0)
content_checks exchange len m = vector_checks exchange len m (vectors_of (content_of exchange m)) 0
content_checks verify len m =
    vector_checks verify len m (vectors_of (content_of verify m)) 0
    ++ (check 13 (eqb (le 4 m 56) 20) (spot CHECKSUM-HEADER 0 56 4) ∷ check 13 (eqb (le 4 m 60) 1) (spot CHECKSUM-SCHEME 0 60 4) ∷ [])
content_checks alert len m = vector_checks alert len m (vectors_of (content_of alert m)) 0

unfoldable pub checks_of : List ℕ → ℕ → List ℕ → List Check
checks_of s q v = common_checks (length s) (head_of s) ++ (order_checks (head_of s) q v ++ content_checks (shape_of (head_of s).kind) (size s) (front s))

abbrev pub FirstCheck : ℕ → Spot → List Check → Type 0
FirstCheck n x [] = ⊥
FirstCheck n x (c ∷ cs) = ((c.test ≡ false) × ((c.number ≡ n) × (c.field ≡ x))) ⊎ ((c.test ≡ true) × FirstCheck n x cs)

-- an empty token and one that is too long have no message at fault
abbrev pub FaultFirst : Type 0
FaultFirst =
    (s : List ℕ) (n p : ℕ) → token_of s ≡ Refused n p → 0 < length s → length s ≤ 65535
    → (q : ℕ) × ((v : List ℕ) × FirstCheck n (spot_of n (first_of (drop p s))) (checks_of (drop p s) q v))

pub record Within (x : Spot) (n : ℕ) : Type 0 where
  pub some : 2 ≤ x.size
  pub inside : x.at + x.size ≤ n

-- 2 has no field
abbrev pub FaultWithin : Type 0
FaultWithin =
    (s : List ℕ) (n p : ℕ) → token_of s ≡ Refused n p → 0 < length s → length s ≤ 65535 → (n ≡ 2 → ⊥)
    → Within (spot_of n (first_of (drop p s))) (length (drop p s))
