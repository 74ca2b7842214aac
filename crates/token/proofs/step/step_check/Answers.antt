use Rattle.message.proofs.Shapes.{shapes}
use Rattle.token.proofs.step.step_check.Goals as goal

pub returns-then-kind-le-AP_REQUEST : goal.returns-then-kind-le-AP_REQUEST
returns-then-kind-le-AP_REQUEST c = search shapes
