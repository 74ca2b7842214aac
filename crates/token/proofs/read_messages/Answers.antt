use Rattle.std.proofs.lemmas.Result.{err_from_is_err_and}
use borrow.Author.Rules.{rules}
use Rattle.token.proofs.Messages.{readings}
use Rattle.token.proofs.read_messages.Goals as goal

pub returns-in_default : goal.returns-in_default
returns-in_default c =
    let passed = rw c.in_default.is at c.map.ensures.cases in
    let placed = rw passed at c.map_err.ensures.cases in
    let p = err_from_is_err_and c.map_err.result placed in
    let q = p.2 in rw p.1 (search (rules, readings, q))

pub slice_bounds-rest-count : goal.slice_bounds-rest-count
slice_bounds-rest-count c = search (rules, readings)

pub slice_bounds-rest-start : goal.slice_bounds-rest-start
slice_bounds-rest-start c = search (rules, readings)

pub loop-rest-smaller : goal.loop-rest-smaller
loop-rest-smaller c = search (rules, readings)

pub loop-rest-preserved : goal.loop-rest-preserved
loop-rest-preserved c = (search readings, search readings, search rules, search readings)

pub returns : goal.returns
returns c = search (rules, readings)
