use Rattle.faults.proofs.Spots.{vectors-none, header-there, type-there, kind-there, broken-none, broken-few, broken-some}
use Rattle.faults.proofs.broken_spot.Goals as goal

pub returns-then-vector_count-eq0 : goal.returns-then-vector_count-eq0
returns-then-vector_count-eq0 c = search vectors-none

pub broken_vector-requires : goal.broken_vector-requires
broken_vector-requires c = search header-there

pub returns-in_err-broken : goal.returns-in_err-broken
returns-in_err-broken c = rw c.from_residual.ensures (broken-none _ c.in_err-broken.ensures)

pub le_u32-requires : goal.le_u32-requires
le_u32-requires c = search type-there

pub vector_spot-requires : goal.vector_spot-requires
vector_spot-requires c = (search kind-there, broken-few _ _ c.in_ok-broken.ensures.0 c.in_ok-broken.ensures.1 c.requires)

pub returns : goal.returns
returns c = broken-some _ _ c.in_ok-broken.ensures.0 c.in_ok-broken.ensures.1 _ c.le_u32.ensures _ c.vector_spot.ensures
