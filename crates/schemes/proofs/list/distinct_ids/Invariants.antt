use mathlib.Core.Path.{◌≡◌}
use Rattle.message.specs.Show.{ids_at}
use Rattle.schemes.specs.Lists.{distinct}
use Rattle.schemes.proofs.Ids.{rest}
use Rattle.schemes.proofs.list.distinct_ids.Given as goal

abbrev pub invariant-loop-k : goal.invariant-loop-k
invariant-loop-k l = distinct (ids_at l.n l.list) ≡ distinct (rest l.n l.list l.k)
