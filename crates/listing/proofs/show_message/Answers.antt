use Rattle.listing.proofs.Stepping.{lines}
use Rattle.listing.proofs.show_message.Goals as goal

pub returns-then-p-eq0 : goal.returns-then-p-eq0
returns-then-p-eq0 c = search lines

pub returns-then-count-p : goal.returns-then-count-p
returns-then-count-p c = search lines

pub returns : goal.returns
returns c = search lines
