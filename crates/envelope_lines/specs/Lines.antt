-- The text of an envelope, as pieces in order: what `unwrap` shows, and what `wrap` answers. Quotations are README.md's, "What an envelope looks like".
--
-- Glossary
--   octets_text v       a field OCTETS
--   mechanism_line k v  the line of the mechanism v, whose place is k; mark: what stands behind it; mechanism_lines: those of several, from a place on
--   octets_line w o     the line of a field behind the word w, where it is there
--   named_lines m       the line of a Resp's mechanism; state_line: of its state
--   token_place s v k   where the token v stands in the envelope s, whose checksum is k; token_line: the token's line
--   last_lines          the lines of the token and the checksum
--   head_line w s       the first line: what the envelope s is, and its length
--   refused_text n      the line of a refusal
--   text_of s g         the text of the envelope in s, which was read as g; envelope_text s: the same of the buffer s
--   carried g           the token of what was read, where there is one; token_in s: of the envelope in s, nothing where there is none
--   octets_of o         the octets of a field, nothing where it is not there
--   begun v             the octets v begin with NEGOEX's signature
--   wrote_line v        what `wrap` answers: the envelope written
use Rattle.std.specs.Prelude.{ℕ, ◌+◌, ◌-◌, Bool, true, false, List, [], ◌∷◌, ◌++◌, length, take, get_or}
use Rattle.std.proofs.Math.Option.{Option, none, some}
use Rattle.octets.specs.Octets.{same_octets}
use Rattle.text.specs.Text.{quoted, decimal, decimal64, digits_of}
use Rattle.der.specs.Got.{Got, ok, no}
use Rattle.der.specs.Grammar.{field_octets}
use Rattle.envelope.specs.Envelope.{Envelope, Init, Resp}
use Rattle.envelope.specs.Reading.{envelope_of}
use Rattle.envelope_parts.specs.Parts.{is_negoex}

-- "OCTETS in upper-case hexadecimal, `-` for none"
unfoldable pub octets_text : List ℕ → List (List ℕ)
octets_text [] = quoted "-" ∷ []
octets_text (x ∷ v) = digits_of (x ∷ v)

-- "` negoex` behind it where it is NEGOEX's"
abbrev pub mark : Bool → List ℕ
mark true = quoted " negoex\n"
mark false = quoted "\n"

-- "mechanism K OCTETS"
unfoldable pub mechanism_line : ℕ → List ℕ → List (List ℕ)
mechanism_line k v = quoted "mechanism " ∷ decimal64 k ∷ quoted " " ∷ (octets_text v ++ (mark (is_negoex v) ∷ []))

unfoldable pub mechanism_lines : ℕ → List (List ℕ) → List (List ℕ)
mechanism_lines k [] = []
mechanism_lines k (m ∷ ms) = mechanism_line k m ++ mechanism_lines (k + 1) ms

-- "absent ones left out"
unfoldable pub octets_line : List ℕ → Option (List ℕ) → List (List ℕ)
octets_line w none = []
octets_line w (some v) = w ∷ (octets_text v ++ (quoted "\n" ∷ []))

-- "a Resp's one is 0"
unfoldable pub named_lines : Option (List ℕ) → List (List ℕ)
named_lines none = []
named_lines (some v) = mechanism_line 0 v

-- "state N"
unfoldable pub state_line : Option (List ℕ) → List (List ℕ)
state_line none = []
state_line (some v) = quoted "state " ∷ decimal (get_or v 0 0) ∷ quoted "\n" ∷ []

-- "P in the file": behind the token there is the checksum alone
abbrev pub token_place : List ℕ → List ℕ → Option (List ℕ) → ℕ
token_place s v k = length s - (length v + length (field_octets 0xA3 0x04 k))

-- "token at=P length=L"
unfoldable pub token_line : List ℕ → Option (List ℕ) → Option (List ℕ) → List (List ℕ)
token_line s none k = []
token_line s (some v) k = quoted "token at=" ∷ decimal64 (token_place s v k) ∷ quoted " length=" ∷ decimal64 (length v) ∷ quoted "\n" ∷ []

unfoldable pub last_lines : List ℕ → Option (List ℕ) → Option (List ℕ) → List (List ℕ)
last_lines s t k = token_line s t k ++ octets_line (quoted "checksum ") k

-- "envelope init length=L", "envelope resp length=L"
unfoldable pub head_line : List ℕ → List ℕ → List (List ℕ)
head_line w s = w ∷ decimal64 (length s) ∷ quoted "\n" ∷ []

-- "refused N at=0"
unfoldable pub refused_text : ℕ → List (List ℕ)
refused_text n = quoted "refused " ∷ decimal n ∷ quoted " at=0\n" ∷ []

-- "in the order in which they stand in the file"
unfoldable pub text_of : List ℕ → Got Envelope → List (List ℕ)
text_of s (no n) = refused_text n
text_of s (ok (Init ms f t k)) =
    head_line (quoted "envelope init length=") s ++ (mechanism_lines 0 ms ++ (octets_line (quoted "flags ") f ++ last_lines s t k))
text_of s (ok (Resp x m t k)) = head_line (quoted "envelope resp length=") s ++ (state_line x ++ (named_lines m ++ last_lines s t k))

abbrev pub envelope_text : List ℕ → List (List ℕ)
envelope_text s = text_of s (envelope_of s)

abbrev pub carried : Got Envelope → Option (List ℕ)
carried (ok (Init ms f t k)) = t
carried (ok (Resp x m t k)) = t
carried (no n) = none

abbrev pub octets_of : Option (List ℕ) → List ℕ
octets_of none = []
octets_of (some v) = v

abbrev pub token_in : List ℕ → List ℕ
token_in s = octets_of (carried (envelope_of s))

-- "where the token's first eight octets are NEGOEX's signature"
abbrev pub begun : List ℕ → Bool
begun v = same_octets (take 8 v) (quoted "NEGOEXTS")

-- "wrote LENGTH OCTETS"
unfoldable pub wrote_line : List ℕ → List (List ℕ)
wrote_line v = quoted "wrote " ∷ decimal64 (length v) ∷ quoted " " ∷ (octets_text v ++ (quoted "\n" ∷ []))
