use borrow.Author.Rules.{rules}
use Prim.Native.Nat.{◌<◌, ◌≤◌}
use lib.ListN.{length}
use Rattle.merging.proofs.Cuts.{cuts, cut-stopped, cut-ends}
use Rattle.merging.proofs.cut_messages.Goals as goal

pub returns-in_default : goal.returns-in_default
returns-in_default c =
    let some : 0 < length c.loop-rest.rest.now = search rules in
    let refused = rw c.in_default.is at c.err.ensures.value in
    let placed = rw refused at c.map-refused.ensures.cases in
    cut-stopped _ _ _ _ c.loop-rest.invariant some _ c.read_header-reading.ensures _ c.in_default.is _ placed (λ r h. search rules)

pub slice_bounds-rest-count : goal.slice_bounds-rest-count
slice_bounds-rest-count c = search (rules, cuts)

pub slice_bounds-rest-start : goal.slice_bounds-rest-start
slice_bounds-rest-start c = search (rules, cuts)

pub loop-rest-smaller : goal.loop-rest-smaller
loop-rest-smaller c = search (rules, cuts)

pub loop-rest-preserved : goal.loop-rest-preserved
loop-rest-preserved c = search (rules, cuts)

pub returns : goal.returns
returns c = let over : length c.loop-rest.rest.now ≤ 0 = search rules in cut-ends _ _ _ _ c.loop-rest.invariant over
