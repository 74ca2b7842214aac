use Rattle.std.proofs.lemmas.Result.{err_from_is_err_and}
use borrow.Author.Rules.{rules}
use native.Mathlib.Omega.{arith}
use Rattle.receiving.proofs.Judging.{whole_length, place-fits, judgings}
use Rattle.receiving.proofs.judge.judge_messages.Goals as goal

pub loop-rest-init : goal.loop-rest-init
loop-rest-init c = (search rules, search rules, search rules, search judgings, search judgings)

pub returns-in_default : goal.returns-in_default
returns-in_default c =
    let passed = rw c.in_default.is at c.map.ensures.cases in
    let placed = rw passed at c.map_err.ensures.cases in
    let p = err_from_is_err_and c.map_err.result placed in
    let q = p.2 in rw p.1 (search (rules, judgings, q))

pub slice_bounds-admit_message-end : goal.slice_bounds-admit_message-end
slice_bounds-admit_message-end c = whole_length _ _ _ _ c.read_next-reading.ensures _ c.in-Ok.is

pub admit_message-admission-requires : goal.admit_message-admission-requires
admit_message-admission-requires c = (search rules, search rules, search judgings)

pub returns-in_default-admission : goal.returns-in_default-admission
returns-in_default-admission c =
    let passed = rw c.in_default-admission.is at c.map-in_default-admission.ensures.cases in
    let placed = rw passed at c.map_err-in_default-admission.ensures.cases in
    let p = err_from_is_err_and c.map_err-in_default-admission.result placed in
    let q = p.2 in rw p.1 (search (rules, judgings, q))

pub slice_bounds-rest-count : goal.slice_bounds-rest-count
slice_bounds-rest-count c = search judgings

pub slice_bounds-rest-start : goal.slice_bounds-rest-start
slice_bounds-rest-start c = search judgings

pub in_token-place-requires : goal.in_token-place-requires
in_token-place-requires c =
    place-fits _ _ _ _ c.read_next-reading.ensures _ c.in-Ok.is _ _ c.loop-rest.invariant.1 c.requires.1

pub overflow_add-sequence : goal.overflow_add-sequence
overflow_add-sequence c =
    omega (arith, c.loop-rest.invariant, c.requires)

pub overflow_add-count : goal.overflow_add-count
overflow_add-count c =
    omega (arith, c.loop-rest.invariant, c.requires)

pub loop-rest-smaller : goal.loop-rest-smaller
loop-rest-smaller c = search judgings

pub loop-rest-preserved : goal.loop-rest-preserved
loop-rest-preserved c = (search judgings, search judgings, search rules, search judgings, search judgings)

pub returns : goal.returns
returns c = search (rules, judgings)
