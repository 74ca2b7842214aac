use Rattle.schemes.proofs.Digits.{or-with}
use Rattle.schemes.proofs.set.with_bit.Goals as goal

pub returns : goal.returns
returns c = or-with _ _ c.requires
