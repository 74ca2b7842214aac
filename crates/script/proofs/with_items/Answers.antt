use Rattle.script.proofs.Items.{item-lists, items-bad}
use borrow.Author.Rules.{rules}
use Rattle.script.proofs.with_items.Goals as goal

pub loop-at-init : goal.loop-at-init
loop-at-init c = search item-lists

pub returns-in_err-next : goal.returns-in_err-next
returns-in_err-next c =
    rw c.from_residual.ensures (items-bad _ _ _ _ _ _ _ _ c.loop-at.invariant c.loop-at-test.true _ c.field.ensures _ c.in_err-next.ensures _)

pub loop-at-preserved : goal.loop-at-preserved
loop-at-preserved c = search (rules, item-lists)

pub returns : goal.returns
returns c = search item-lists
