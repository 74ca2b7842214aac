use Rattle.schemes.proofs.Digits.{full_is}
use Rattle.schemes.proofs.set.full_set.Goals as goal

pub returns : goal.returns
returns c = full_is _ c.requires
