use Rattle.std.proofs.Common.{rules}
use Rattle.envelope.specs.Reading.{init_of}
use Rattle.envelope.proofs.init_at.Goals as goal

pub returns : goal.returns
returns c = c.only_at.ensures init_of (λ h r k q. search rules)
