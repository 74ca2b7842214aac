use Rattle.std.proofs.Common.{rules}
use Rattle.envelope_write.proofs.Sums.{sizes, sizes-start}
use Rattle.envelope_write.proofs.identifiers_size.Goals as goal

pub loop-size-init : goal.loop-size-init
loop-size-init c = (search rules, sizes-start _)

pub loop-size-preserved : goal.loop-size-preserved
loop-size-preserved c = (search sizes, search sizes)

pub returns : goal.returns
returns c = search (rules, sizes)
