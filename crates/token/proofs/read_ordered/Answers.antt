use Rattle.token.proofs.Orders.{orders}
use Rattle.token.proofs.read_ordered.Goals as goal

pub returns-then-h-sequence : goal.returns-then-h-sequence
returns-then-h-sequence c = search orders

pub returns-then-not-same_id : goal.returns-then-not-same_id
returns-then-not-same_id c = search orders

pub returns : goal.returns
returns c = search orders
