use borrow.Author.Rules.{rules}
use Rattle.script.proofs.Lines.{from-numbers}
use Rattle.script.proofs.with_number.Goals as goal

pub returns-in_err-number : goal.returns-in_err-number
returns-in_err-number c = rw c.from_residual.ensures (search (rules, from-numbers))

pub returns : goal.returns
returns c = search (rules, from-numbers)
