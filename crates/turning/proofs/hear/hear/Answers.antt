use borrow.Author.Rules.{rules}
use Rattle.turning.proofs.Hearing.{hearings}
use Rattle.turning.proofs.hear.hear.Goals as goal

pub returns-then-good : goal.returns-then-good
returns-then-good c = search (rules, hearings)

pub returns : goal.returns
returns c = search (rules, hearings)
