-- What is proved of the definitions.
--
-- Glossary
--   OneReading   what is read, encoded, gives the same octets, and may be written: see ReadEncoded
--   ReadEncoded  what is read is what would be written; EncodedRead: what is written reads back as the same fields
use Rattle.std.specs.Prelude.{ℕ, ◌≤◌, ◌≡◌, true, List, length}
use Rattle.der.specs.Got.{ok}
use Rattle.envelope.specs.Envelope.{Envelope, encoded, fine, few}
use Rattle.envelope.specs.Reading.{envelope_of}

pub record OneReading (s : List ℕ) (e : Envelope) : Type 0 where
  pub same : s ≡ encoded e
  pub is_fine : fine e ≡ true
  pub is_few : few e ≡ true
  pub short : length s ≤ 65535

-- "what is read, written again, gives the same octets"
abbrev pub ReadEncoded : Type 0
ReadEncoded = (s : List ℕ) (e : Envelope) → envelope_of s ≡ ok e → OneReading s e

-- "What is written reads back equal"
abbrev pub EncodedRead : Type 0
EncodedRead = (e : Envelope) → fine e ≡ true → few e ≡ true → length (encoded e) ≤ 65535 → envelope_of (encoded e) ≡ ok e
