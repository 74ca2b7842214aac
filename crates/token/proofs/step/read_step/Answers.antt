use Rattle.token.proofs.Orders.{orders}
use Rattle.token.proofs.step.read_step.Goals as goal

pub returns-in_default : goal.returns-in_default
returns-in_default c = search orders

pub step_ordered-requires : goal.step_ordered-requires
step_ordered-requires c = search orders

pub returns : goal.returns
returns c = search orders
