use borrow.Author.Rules.{rules}
use Rattle.turning.proofs.Tests.{begins}
use Rattle.turning.proofs.spoke.begin.Goals as goal

pub returns-then-may_choose : goal.returns-then-may_choose
returns-then-may_choose c = search (rules, begins)

pub returns-then-writing_token-eq-ANSWER : goal.returns-then-writing_token-eq-ANSWER
returns-then-writing_token-eq-ANSWER c = search (rules, begins)

pub returns : goal.returns
returns c = search (rules, begins)
