use borrow.Author.Rules.{rules}
use Rattle.merging.proofs.Rows.{rows, row_on}
use Rattle.merging.proofs.in_row.Goals as goal

pub slice_bounds-i_left-count : goal.slice_bounds-i_left-count
slice_bounds-i_left-count c = search (rules, rows)

pub slice_bounds-i_left-start : goal.slice_bounds-i_left-start
slice_bounds-i_left-start c = search (rules, rows)

pub slice_bounds-a_left-count : goal.slice_bounds-a_left-count
slice_bounds-a_left-count c = search (rules, rows)

pub slice_bounds-a_left-start : goal.slice_bounds-a_left-start
slice_bounds-a_left-start c = search (rules, rows)

pub overflow_add-number : goal.overflow_add-number
overflow_add-number c = search (rules, rows)

pub loop-turn-smaller : goal.loop-turn-smaller
loop-turn-smaller c = search (rules, rows)

pub loop-turn-preserved : goal.loop-turn-preserved
loop-turn-preserved c = row_on _ _ _ _ _ c.loop-turn.invariant _ c.in-Some.ensures

pub returns : goal.returns
returns c = search (rules, rows)
