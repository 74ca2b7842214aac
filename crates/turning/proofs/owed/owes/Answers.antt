use borrow.Author.Rules.{rules}
use Rattle.turning.proofs.Owing.{owings}
use Rattle.turning.proofs.owed.owes.Goals as goal

pub returns-in-0 : goal.returns-in-0
returns-in-0 c = search (rules, owings)

pub returns-in-1 : goal.returns-in-1
returns-in-1 c = search (rules, owings)

pub returns-then-not-may_choose : goal.returns-then-not-may_choose
returns-then-not-may_choose c = search (rules, owings)

pub returns-else-not-may_choose : goal.returns-else-not-may_choose
returns-else-not-may_choose c = search (rules, owings)
