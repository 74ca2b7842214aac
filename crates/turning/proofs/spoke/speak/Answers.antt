use borrow.Author.Rules.{rules}
use Prim.Native.Nat.{◌≤◌}
use lib.ListN.{length}
use Rattle.turning.proofs.Saying.{sayings}
use Rattle.merging.proofs.Cuts.{header-within, header-less}
use Rattle.turning.proofs.spoke.speak.Goals as goal

pub loop-rest-init : goal.loop-rest-init
loop-rest-init c = search (rules, sayings)

pub returns-in_default : goal.returns-in_default
returns-in_default c = search (rules, sayings)

pub slice_bounds-say-end : goal.slice_bounds-say-end
slice_bounds-say-end c = search (rules, sayings)

pub say-spoken-requires : goal.say-spoken-requires
say-spoken-requires c = (search sayings, search sayings, search sayings, search sayings)

pub slice_bounds-rest-count : goal.slice_bounds-rest-count
slice_bounds-rest-count c = search (rules, header-within)

pub slice_bounds-rest-start : goal.slice_bounds-rest-start
slice_bounds-rest-start c = search (rules, header-within)

pub loop-rest-smaller : goal.loop-rest-smaller
loop-rest-smaller c = search (rules, header-less)

pub loop-rest-preserved : goal.loop-rest-preserved
loop-rest-preserved c = search (rules, sayings)

pub returns : goal.returns
returns c = let over : length c.loop-rest.rest.now ≤ 0 = search rules in search (rules, sayings)
