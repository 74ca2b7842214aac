use Rattle.token.proofs.Walks.{OnWay}
use Rattle.token.proofs.walk_to.Given as goal

abbrev pub invariant-loop : goal.invariant-loop
invariant-loop l = OnWay l.token l.k l.rest l.place.0 l.counter
