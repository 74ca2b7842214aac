use Rattle.recovery.proofs.Scanning.{stretches}
use borrow.Author.Rules.{rules}
use Rattle.recovery.proofs.show_stretch.Goals as goal

pub returns-then-to-from : goal.returns-then-to-from
returns-then-to-from c = search (rules, stretches)

pub slice_bounds-line-end : goal.slice_bounds-line-end
slice_bounds-line-end c = search (rules, stretches)

pub slice_bounds-put_line-end : goal.slice_bounds-put_line-end
slice_bounds-put_line-end c = search (rules, stretches)

pub returns : goal.returns
returns c = search (rules, stretches)
