-- What is proved of writing and reading together.
--
-- Glossary
--   EnvelopeReads  what was written reads back as the same fields
--   ReadWritten    what was read, written again into a buffer with room for it, gives the same octets
--   RefusedKeeps   a refusal leaves the buffer as it was
use Rattle.std.specs.Prelude.{ℕ, ◌≤◌, ◌≡◌, List, length, take}
use Rattle.put.specs.Put.{put}
use Rattle.der.specs.Got.{ok}
use Rattle.envelope.specs.Envelope.{Envelope}
use Rattle.envelope.specs.Reading.{envelope_of}
use Rattle.envelope_write.specs.Writing.{stored, unstored, storing}

-- "What is written reads back equal"
abbrev pub EnvelopeReads : Type 0
EnvelopeReads = (d : List ℕ) (e : Envelope) (n : ℕ) (d' : List ℕ) → storing d e ≡ stored n d' → envelope_of (take n d') ≡ ok e

-- "what is read, written again, gives the same octets"
abbrev pub ReadWritten : Type 0
ReadWritten = (s : List ℕ) (e : Envelope) (d : List ℕ) → envelope_of s ≡ ok e → length s ≤ length d → storing d e ≡ stored (length s) (put d 0 s)

abbrev pub RefusedKeeps : Type 0
RefusedKeeps = (d : List ℕ) (e : Envelope) (n : ℕ) (d' : List ℕ) → storing d e ≡ unstored n d' → d' ≡ d
