use Rattle.schemes.proofs.Places.{choices}
use borrow.Author.Rules.{rules}
use Rattle.schemes.proofs.choosing.choose_kept.Goals as goal

pub returns-then-open-eq0 : goal.returns-then-open-eq0
returns-then-open-eq0 c = search (rules, choices)

pub bounds-kept-open : goal.bounds-kept-open
bounds-kept-open c = search (rules, choices)

pub returns : goal.returns
returns c = search (rules, choices)
