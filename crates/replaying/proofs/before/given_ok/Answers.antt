use borrow.Author.Rules.{rules}
use Rattle.replaying.proofs.Befores.{given-small}
use Rattle.replaying.proofs.before.given_ok.Goals as goal

pub overflow_cast-list : goal.overflow_cast-list
overflow_cast-list c = search (rules, given-small)
