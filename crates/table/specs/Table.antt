-- What a viewer shows of a message in numbers, and the table of all messages. Document 02, C-17.
--
-- Glossary
--   placed_at p m     the message m at the token place p
--   fields_in m       the token place of a placed message, and its header's type, sequence number, header length and message length
--   vector_place p v  the token place of the vector v of a message at the token place p
--   spans_in p vs     place and length of each of the vectors vs of a message at p
--   entry_of m        what the table has of m: its fields, the number of its vectors, and place and length of each
--   entries_of ms     those of messages, in order
--   numbers ns        numbers, each in four octets
--   table_of ms       the table of messages
--   TableFits         the table of an accepted token is no longer than the token
--   Held p m          what the functions of src/ ask of a message m at p: it ends within 65,535 octets, and its vectors lie inside it
use Rattle.std.specs.Prelude.{ℕ, ◌+◌, ◌≤◌, ◌≡◌, cond, length, eqb}
use mathlib.Core.List.{List, [], ◌∷◌, ◌++◌, Memᴰ}
use Rattle.vector.specs.declared.Vector.{Vector}
use Rattle.vector.specs.Vector.{extent, Inside}
use Rattle.message.specs.Layout.{head_of}
use Rattle.token.specs.Token.{Placed, Accepted, token_of}
use Rattle.coverage.specs.Coverage.{header_in, vectors_in}
use Rattle.put.specs.Put.{octets_of}

abbrev pub placed_at : ℕ → List ℕ → Placed
placed_at p m = record { place = p; octets = m }

-- "a message's header fields"
abbrev pub fields_in : Placed → List ℕ
fields_in m =
    m.place
    ∷ (head_of m.octets).kind
    ∷ (head_of m.octets).sequence
    ∷ (head_of m.octets).header
    ∷ (head_of m.octets).length
    ∷ []

-- "each vector's token place (an empty one's is its message's)"
unfoldable pub vector_place : ℕ → Vector → ℕ
vector_place p v = cond (eqb (extent v) 0) p (p + v.offset.0)

-- "each vector's token place .. and length in octets"
unfoldable pub spans_in : ℕ → List Vector → List ℕ
spans_in p [] = []
spans_in p (v ∷ vs) = vector_place p v ∷ extent v ∷ spans_in p vs

-- "by number from 0 (the header's in order, then the nested)"
abbrev pub entry_of : Placed → List ℕ
entry_of m = fields_in m ++ (length (vectors_in m.octets) ∷ spans_in m.place (vectors_in m.octets))

unfoldable pub entries_of : List Placed → List ℕ
entries_of [] = []
entries_of (m ∷ ms) = entry_of m ++ entries_of ms

-- "All numbers are little endian."
unfoldable pub numbers : List ℕ → List ℕ
numbers [] = []
numbers (n ∷ ns) = octets_of 4 n ++ numbers ns

abbrev pub table_of : List Placed → List ℕ
table_of ms = numbers (entries_of ms)

abbrev pub TableFits : Type 0
TableFits = (s : List ℕ) (ms : List Placed) → token_of s ≡ Accepted ms → length (table_of ms) ≤ length s

pub record Held (p : ℕ) (m : List ℕ) : Type 0 where
  pub ends : p + length m ≤ 65535
  pub header : header_in m ≤ length m
  pub lies : (v : Vector) → Memᴰ v (vectors_in m) → (extent v ≡ 0 → ⊥) → Inside (header_in m) (length m) v
