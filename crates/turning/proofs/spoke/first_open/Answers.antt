use borrow.Author.Rules.{rules}
use Rattle.turning.proofs.Tests.{opens}
use Rattle.turning.proofs.spoke.first_open.Goals as goal

pub returns-then-left-eq0 : goal.returns-then-left-eq0
returns-then-left-eq0 c = search (rules, opens)

pub returns : goal.returns
returns c = search (rules, opens)
