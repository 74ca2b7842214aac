use borrow.Author.Rules.{rules}
use Rattle.script.proofs.Lines.{from-ids}
use Rattle.script.proofs.with_id.Goals as goal

pub returns-in_err-id : goal.returns-in_err-id
returns-in_err-id c = rw c.from_residual.ensures (search (rules, from-ids))

pub returns : goal.returns
returns c = search (rules, from-ids)
