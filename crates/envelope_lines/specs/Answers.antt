-- What the private functions ask of a reading's answer, and what it says. No contract of a public function speaks of these.
--
-- Glossary
--   TokenAt s f k  the token f lies in s, and behind it stands the checksum k alone
--   InitAt s i     the parts of an Init lie in s where they should; told_init: what it says of the buffer
--   RespAt s r     the parts of a Resp lie in s where they should; told_resp: what it says of the buffer
use Rattle.std.specs.Prelude.{List, ℕ, length, Option}
use Rattle.der.specs.Got.{Got, ok}
use Rattle.der.specs.declared.Part.{Part as Section}
use Rattle.envelope.specs.Envelope.{Envelope}
use Rattle.envelope.specs.Answers.{FieldIn, Before, Placed, told}
use Rattle.envelope.specs.declared.Init.{Init}
use Rattle.envelope.specs.declared.Resp.{Resp}
use Rattle.envelope.specs.declared.Envelope.TheVariants as lent

pub record TokenAt (s : List ℕ) (f k : Option Section) : Type 0 where
  pub inside : FieldIn s f
  pub last : Before s (length s) f k

abbrev pub InitAt : List ℕ → Init → Type 0
InitAt s i = Placed s (length s) (lent.Init i)

abbrev pub told_init : List ℕ → Init → Got Envelope
told_init s i = ok (told s (lent.Init i))

abbrev pub RespAt : List ℕ → Resp → Type 0
RespAt s r = Placed s (length s) (lent.Resp r)

abbrev pub told_resp : List ℕ → Resp → Got Envelope
told_resp s r = ok (told s (lent.Resp r))
