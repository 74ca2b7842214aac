use Rattle.offers.proofs.Entering.{entries}
use Rattle.offers.proofs.enter.Goals as goal

pub returns : goal.returns
returns c = search entries
