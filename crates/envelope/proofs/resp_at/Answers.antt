use Rattle.std.proofs.Common.{rules}
use Rattle.envelope.specs.Reading.{resp_of}
use Rattle.envelope.proofs.resp_at.Goals as goal

pub returns : goal.returns
returns c = c.only_at.ensures resp_of (λ h r k q. search rules)
