use Rattle.receiving.proofs.Takes.{countings}
use Rattle.receiving.proofs.taken.counts_after.Goals as goal

pub returns-then-r-ne-REPLY : goal.returns-then-r-ne-REPLY
returns-then-r-ne-REPLY c = search countings

pub returns-else-r : goal.returns-else-r
returns-else-r c = search countings

pub returns : goal.returns
returns c = search countings
