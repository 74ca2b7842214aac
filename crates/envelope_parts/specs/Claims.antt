-- What is proved of the parts.
--
-- Glossary
--   EachMechanism  the mechanism shown by its number is that of the list that was read
--   arc_octets n   a number of an object identifier as octets of seven bits, up to 16,383; arcs: several of them
--   identifier_octets   the contents of an object identifier: its first two numbers together, then the others
--   NegoexExactly  NEGOEX is recognised by its identifier's octets and by no others
--   Dotted         the two identifiers are 1.3.6.1.5.5.2 and 1.3.6.1.4.1.311.2.2.30
use Rattle.std.specs.Prelude.{ℕ, ◌+◌, ◌*◌, ◌/◌, ◌%◌, ◌≤◌, ◌≡◌, true, cond, List, [], ◌∷◌, ◌++◌, length, get_or, ltb}
use Rattle.der.specs.Got.{ok}
use Rattle.envelope.specs.Envelope.{spnego, negoex}
use Rattle.envelope.specs.Reading.{list_of}
use Rattle.envelope_parts.specs.Parts.{mechanism_of, is_negoex}

abbrev pub EachMechanism : Type 0
EachMechanism = (v : List ℕ) (ms : List (List ℕ)) (k : ℕ) → length v ≤ 65535 → list_of v ≡ ok ms → mechanism_of k v ≡ get_or ms k []

-- X.690, 8.19
abbrev pub arc_octets : ℕ → List ℕ
arc_octets n = cond (ltb n 128) (n ∷ []) ((128 + n / 128) ∷ n % 128 ∷ [])

abbrev pub arcs : List ℕ → List ℕ
arcs [] = []
arcs (n ∷ ns) = arc_octets n ++ arcs ns

abbrev pub identifier_octets : ℕ → ℕ → List ℕ → List ℕ
identifier_octets a b ns = (40 * a + b) ∷ arcs ns

abbrev pub Dotted : Type 0
Dotted = (spnego ≡ identifier_octets 1 3 (6 ∷ 1 ∷ 5 ∷ 5 ∷ 2 ∷ [])) × (negoex ≡ identifier_octets 1 3 (6 ∷ 1 ∷ 4 ∷ 1 ∷ 311 ∷ 2 ∷ 2 ∷ 30 ∷ []))

-- "for NEGOEX, recognised as 1.3.6.1.4.1.311.2.2.30"
abbrev pub NegoexExactly : Type 0
NegoexExactly = (v : List ℕ) → (is_negoex v ≡ true → v ≡ negoex) × (v ≡ negoex → is_negoex v ≡ true)
