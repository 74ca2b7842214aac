use Rattle.receiving.proofs.Calls.{closings}
use Rattle.receiving.proofs.closed_by.Goals as goal

pub returns-then-number-ne12 : goal.returns-then-number-ne12
returns-then-number-ne12 c = search closings

pub returns : goal.returns
returns c = search closings
