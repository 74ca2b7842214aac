use borrow.Author.Rules.{rules}
use Rattle.schemes.proofs.Places.{choices}
use Rattle.schemes.proofs.choosing.choose_own.Goals as goal

pub returns-then-unmarked-eq0 : goal.returns-then-unmarked-eq0
returns-then-unmarked-eq0 c = search (rules, choices)

pub returns : goal.returns
returns c = search (rules, choices)
