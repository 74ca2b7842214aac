use Rattle.std.proofs.lemmas.Result.{err_from_is_err_and}
use Rattle.receiving.proofs.Calls.{before-limits, befores}
use Rattle.receiving.proofs.check_before.Goals as goal

pub returns-in_err-check_limits : goal.returns-in_err-check_limits
returns-in_err-check_limits c =
    let p = err_from_is_err_and c.from_residual.result c.from_residual.ensures.1 in
    rw (p.1, p.2) (before-limits _ _ _ c.in_err-check_limits.ensures)

pub returns-then-not-may_read : goal.returns-then-not-may_read
returns-then-not-may_read c = search (befores, c.in_ok-check_limits.ensures)

pub returns-then-size-gt65535 : goal.returns-then-size-gt65535
returns-then-size-gt65535 c = search (befores, c.in_ok-check_limits.ensures)

pub returns : goal.returns
returns c = search (befores, c.in_ok-check_limits.ensures)
