use borrow.Author.Rules.{rules}
use Rattle.turning.proofs.Owing.{lists}
use Rattle.turning.proofs.owed.lists_reply.Goals as goal

pub shared_ref_as_front-reply : goal.shared_ref_as_front-reply
shared_ref_as_front-reply c = search (rules, lists)

pub returns-then-schemes-ne0 : goal.returns-then-schemes-ne0
returns-then-schemes-ne0 c = search (rules, lists)

pub returns-else-schemes-ne0 : goal.returns-else-schemes-ne0
returns-else-schemes-ne0 c = search (rules, lists)
