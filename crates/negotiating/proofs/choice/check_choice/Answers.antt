use Rattle.std.proofs.lemmas.Result.{err_from_is_err_and}
use Rattle.negotiating.proofs.Choices.{choice-limits, choice-stage, choice-refusals}
use Rattle.negotiating.proofs.choice.check_choice.Goals as goal

pub returns-in_err-check_limits : goal.returns-in_err-check_limits
returns-in_err-check_limits c =
    let p = err_from_is_err_and c.from_residual.result c.from_residual.ensures.1 in
    rw (p.1, p.2) (choice-limits _ _ _ _ _ c.in_err-check_limits.ensures)

pub returns-then-r : goal.returns-then-r
returns-then-r c = choice-stage _ _ _ _ c.in_ok-check_limits.ensures c.then-r.either

pub returns-then-not-within : goal.returns-then-not-within
returns-then-not-within c = search (choice-refusals, c.in_ok-check_limits.ensures)

pub returns-then-not-fit : goal.returns-then-not-fit
returns-then-not-fit c = search (choice-refusals, c.in_ok-check_limits.ensures)

pub returns-then-left-eq0 : goal.returns-then-left-eq0
returns-then-left-eq0 c = search (choice-refusals, c.in_ok-check_limits.ensures)

pub returns-then-is_none : goal.returns-then-is_none
returns-then-is_none c = search (choice-refusals, c.in_ok-check_limits.ensures, c.if-is_none.ensures)

pub returns : goal.returns
returns c = search (choice-refusals, c.in_ok-check_limits.ensures, c.if-is_none.ensures)
