use Rattle.tallying.proofs.Steps.{more-out, more-fits}
use Rattle.tallying.proofs.one_more.Goals as goal

pub returns-then-a-k : goal.returns-then-a-k
returns-then-a-k c = search more-out

pub overflow_add-a : goal.overflow_add-a
overflow_add-a c = record { fits = search more-fits }
