use Rattle.entries.proofs.Fields.{numbers-at}
use Rattle.entries.proofs.lookup.number_at.Goals as goal

pub returns-then-size-lt4 : goal.returns-then-size-lt4
returns-then-size-lt4 c = search numbers-at

pub returns : goal.returns
returns c = search numbers-at
