use Prim.Native.Nat.{◌≤◌}
use lib.ListN.{length}
use borrow.Author.Rules.{rules}
use Rattle.merging.proofs.Runs.{runs, run_ends}
use Rattle.merging.proofs.Cuts.{header-within, header-less}
use Rattle.merging.proofs.run_at.Goals as goal

pub returns-in_default : goal.returns-in_default
returns-in_default c = search (rules, runs)

pub returns-then-h-first : goal.returns-then-h-first
returns-then-h-first c = search (rules, runs)

pub slice_bounds-left-count : goal.slice_bounds-left-count
slice_bounds-left-count c = search (rules, runs, header-within)

pub slice_bounds-left-start : goal.slice_bounds-left-start
slice_bounds-left-start c = search (rules, runs, header-within)

pub loop-left-smaller : goal.loop-left-smaller
loop-left-smaller c = search (rules, header-less)

pub loop-left-preserved : goal.loop-left-preserved
loop-left-preserved c = search (rules, runs)

pub returns : goal.returns
returns c = let over : length c.loop-left.left.now ≤ 0 = search rules in run_ends _ _ _ _ _ c.loop-left.invariant over
