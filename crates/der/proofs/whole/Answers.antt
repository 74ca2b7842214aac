use Rattle.std.proofs.Common.{rules}
use Rattle.der.proofs.Wholes.{wholes}
use Rattle.der.proofs.whole.Goals as goal

pub loop-x-preserved : goal.loop-x-preserved
loop-x-preserved c = (search rules, search wholes)

pub returns : goal.returns
returns c = search (rules, wholes)
