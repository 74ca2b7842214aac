use Rattle.std.proofs.Common.{rules}
use Rattle.der.specs.Element.{any}
use Rattle.der.specs.Grammar.{only}
use Rattle.envelope.specs.Reading.{wrapped_of, resp_of}
use Rattle.envelope.proofs.Levels.{envelopes, envelope-init, envelope-resp}
use Rattle.envelope.proofs.read_envelope.Goals as goal

pub returns-then-s-gt65535 : goal.returns-then-s-gt65535
returns-then-s-gt65535 c = search (rules, envelopes)

pub returns-then-starts_at : goal.returns-then-starts_at
returns-then-starts_at c =
    envelope-init _ c.if-s-gt65535.false _ c.starts_at.ensures _ c.if-starts_at.true (c.only_at.ensures wrapped_of (λ h r k q. search rules))

pub returns : goal.returns
returns c =
    envelope-resp _ c.if-s-gt65535.false _ c.starts_at.ensures _ c.if-starts_at.false (c.only_at-2.ensures (only 0x30 any resp_of) (λ h r k q. search rules))
