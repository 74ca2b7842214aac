use Rattle.std.proofs.Common.{rules}
use Rattle.faults.proofs.Spots.{broken, type-room}
use Rattle.faults.proofs.broken_vector.Goals as goal

pub le_u32-requires : goal.le_u32-requires
le_u32-requires c = search type-room

pub loop-k-init : goal.loop-k-init
loop-k-init c = search broken

pub returns-then-not-keeps_rule : goal.returns-then-not-keeps_rule
returns-then-not-keeps_rule c = (search broken, search rules)

pub loop-k-preserved : goal.loop-k-preserved
loop-k-preserved c = search broken

pub returns : goal.returns
returns c = search broken
