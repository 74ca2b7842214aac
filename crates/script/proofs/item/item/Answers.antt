use borrow.Author.Rules.{rules}
use Rattle.script.proofs.Items.{item-texts}
use Rattle.script.proofs.item.item.Goals as goal

pub returns-then-octet-ne58 : goal.returns-then-octet-ne58
returns-then-octet-ne58 c = search item-texts

pub returns-in_err-kind : goal.returns-in_err-kind
returns-in_err-kind c = rw c.from_residual.ensures (search (rules, item-texts))

pub returns-in_err-size : goal.returns-in_err-size
returns-in_err-size c = rw c.from_residual-in_err-size.ensures (search (rules, item-texts))

pub returns : goal.returns
returns c = search (rules, item-texts)
