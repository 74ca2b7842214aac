use Rattle.receiving.proofs.Calls.{finishes}
use Rattle.receiving.proofs.refuse_halted.Goals as goal

pub returns : goal.returns
returns c = search finishes
