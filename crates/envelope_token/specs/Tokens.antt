-- Where the token stands in an envelope. Request C-16: "The token's octets are handed back, for the structural reading, as part of the caller's buffer."
--
-- Glossary
--   Span           a place in the buffer, and a length in octets
--   span_in s t k  where the token t stands in the envelope s, whose checksum is k: behind the token there is the checksum alone; 19 where there is no token
--   span_of s e    that of what was read
--   carried_of s   that of the envelope in s, or the envelope's refusal
--   said           what an answer of src/ says
--   TokenAt s f k  the token f lies in s, and behind it stands the checksum k alone
use Rattle.std.specs.Prelude.{ℕ, ◌+◌, ◌-◌, ◌≤◌, List, length, Option, Result}
use Rattle.std.proofs.Math.Option.{none, some}
use Rattle.std.proofs.Math.Option.{Option as Maybe}
use Rattle.der.specs.Got.{Got, ok, no, bind}
use Rattle.der.specs.Grammar.{field_octets}
use Rattle.envelope.specs.Envelope.{Envelope, Init, Resp}
use Rattle.envelope.specs.Reading.{envelope_of}
use Rattle.envelope.specs.Answers.{FieldIn, Before}
use Rattle.refusal.specs.declared.Refusal.{Refusal}
use Rattle.der.specs.Holder.{got}
use Rattle.der.specs.declared.Part.{Part as Section}
use Rattle.envelope_token.specs.declared.Carried.{Carried}

pub record Span : Type 0 where
  pub place : ℕ
  pub size : ℕ

abbrev pub span_in : List ℕ → Maybe (List ℕ) → Maybe (List ℕ) → Got Span
span_in s none k = no 19
span_in s (some v) k = ok (record { place = length s - (length v + length (field_octets 0xA3 0x04 k)); size = length v })

abbrev pub span_of : List ℕ → Envelope → Got Span
span_of s (Init mechanisms flags token checksum) = span_in s token checksum
span_of s (Resp state mechanism token checksum) = span_in s token checksum

unfoldable pub carried_of : List ℕ → Got Span
carried_of s = bind (envelope_of s) (λ e. span_of s e)

abbrev pub said : Result Carried Refusal → Got Span
said r = got (λ c. record { place = c.place; size = c.length }) r

pub record TokenAt (s : List ℕ) (f k : Option Section) : Type 0 where
  pub inside : FieldIn s f
  pub last : Before s (length s) f k
  pub short : length s ≤ 65535
