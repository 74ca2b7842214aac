use Rattle.token.proofs.Orders.{orders}
use Rattle.token.proofs.read_next.Goals as goal

pub returns-in_default : goal.returns-in_default
returns-in_default c = search orders

pub read_ordered-requires : goal.read_ordered-requires
read_ordered-requires c = search orders

pub returns : goal.returns
returns c = search orders
