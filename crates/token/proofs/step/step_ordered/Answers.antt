use Rattle.token.proofs.Orders.{orders}
use Rattle.token.proofs.step.step_ordered.Goals as goal

pub returns-then-h-sequence : goal.returns-then-h-sequence
returns-then-h-sequence c = search orders

pub returns-then-not-same_octets : goal.returns-then-not-same_octets
returns-then-not-same_octets c = search orders

pub returns : goal.returns
returns c = search orders
