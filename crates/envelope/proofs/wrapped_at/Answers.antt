use Rattle.std.proofs.Common.{rules}
use Rattle.der.specs.Element.{any}
use Rattle.der.specs.Grammar.{only}
use Rattle.envelope.specs.Reading.{init_of}
use Rattle.envelope.proofs.Levels.{wrapped-no, wrapped-read}
use Rattle.envelope.proofs.wrapped_at.Goals as goal

pub returns-in_err-token : goal.returns-in_err-token
returns-in_err-token c = wrapped-no _ _ c.requires _ c.cut_exactly.ensures _ c.in_err-token.was _ c.from_residual.ensures.1

pub returns : goal.returns
returns c = wrapped-read _ _ c.requires _ c.cut_exactly.ensures _ _ c.in_ok-token.was _ (c.only_at.ensures (only 0x30 any init_of) (λ h r k q. search rules))
