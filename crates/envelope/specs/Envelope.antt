-- NegTokenInit in its GSS-API wrapper, and NegTokenResp, as values and as octets. RFC 4178, 4.2, and RFC 2743, 3.1; request C-16.
--
-- Glossary
--   Envelope     the fields of either; what may be missing is none where it is, which is not the same as empty
--   spnego       the contents of SPNEGO's identifier, 1.3.6.1.5.5.2; negoex: of NEGOEX's, 1.3.6.1.4.1.311.2.2.30
--   identifiers  mechanism identifiers as elements, one behind the other
--   sequence     the contents of a token's sequence: four fields, the first two with elements of the tags u and v in them; tail_octets: the last three
--   encoded e    the octets of the envelope e
--   is_state c   the contents c are a negotiation state
--   fine e       e has a mechanism, where it is an Init, and a state from 0 to 3, where it has one; fine_state: of a state that may be missing
--   few e        e has at most sixteen mechanisms
use Rattle.std.specs.Prelude.{ℕ, Bool, true, List, [], ◌∷◌, ◌++◌, length, leb}
use Rattle.std.proofs.Math.Option.{Option, none, some}
use Rattle.der.specs.Element.{element, at_most}
use Rattle.der.specs.Grammar.{field_octets}

pub data Envelope : Type 0 where
  Init : (mechanisms : List (List ℕ)) (flags token checksum : Option (List ℕ)) → Envelope
  Resp : (state mechanism token checksum : Option (List ℕ)) → Envelope

abbrev pub spnego : List ℕ
spnego = 0x2B ∷ 0x06 ∷ 0x01 ∷ 0x05 ∷ 0x05 ∷ 0x02 ∷ []

-- "for NEGOEX, recognised as 1.3.6.1.4.1.311.2.2.30"
abbrev pub negoex : List ℕ
negoex = 0x2B ∷ 0x06 ∷ 0x01 ∷ 0x04 ∷ 0x01 ∷ 0x82 ∷ 0x37 ∷ 0x02 ∷ 0x02 ∷ 0x1E ∷ []

unfoldable pub identifiers : List (List ℕ) → List ℕ
identifiers [] = []
identifiers (m ∷ ms) = element 0x06 m ++ identifiers ms

-- [0] to [3], each with one element in it: the token and the checksum are OCTET STRINGs in both
abbrev pub tail_octets : ℕ → Option (List ℕ) → Option (List ℕ) → Option (List ℕ) → List ℕ
tail_octets v second token checksum = field_octets 0xA1 v second ++ (field_octets 0xA2 0x04 token ++ (field_octets 0xA3 0x04 checksum ++ []))

abbrev pub sequence : ℕ → ℕ → Option (List ℕ) → Option (List ℕ) → Option (List ℕ) → Option (List ℕ) → List ℕ
sequence u v first second token checksum = field_octets 0xA0 u first ++ tail_octets v second token checksum

-- an Init's fields are a SEQUENCE OF identifiers and a BIT STRING; a Resp's are an ENUMERATED and an identifier
unfoldable pub encoded : Envelope → List ℕ
encoded (Init ms f t k) = element 0x60 (element 0x06 spnego ++ element 0xA0 (element 0x30 (sequence 0x30 0x03 (some (identifiers ms)) f t k)))
encoded (Resp x m t k) = element 0xA1 (element 0x30 (sequence 0x0A 0x06 x m t k))

-- "the state being one octet from 0 to 3"
abbrev pub is_state : List ℕ → Bool
is_state c = at_most 3 c

abbrev pub fine_state : Option (List ℕ) → Bool
fine_state none = true
fine_state (some c) = is_state c

unfoldable pub fine : Envelope → Bool
fine (Init ms f t k) = leb 1 (length ms)
fine (Resp x m t k) = fine_state x

unfoldable pub few : Envelope → Bool
few (Init ms f t k) = leb (length ms) 16
few (Resp x m t k) = true
