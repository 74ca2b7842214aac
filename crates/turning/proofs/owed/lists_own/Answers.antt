use borrow.Author.Rules.{rules}
use Rattle.turning.proofs.Owing.{lists}
use Rattle.turning.proofs.owed.lists_own.Goals as goal

pub returns : goal.returns
returns c = search (rules, lists)
