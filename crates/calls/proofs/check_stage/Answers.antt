use Rattle.std.proofs.lemmas.Result.{err_from_is_err_and}
use Rattle.calls.proofs.Refusals.{stage-limits, stage-kind, stage-ok}
use Rattle.calls.proofs.check_stage.Goals as goal

pub returns-in_err-check_limits : goal.returns-in_err-check_limits
returns-in_err-check_limits c =
    let p = err_from_is_err_and c.from_residual.result c.from_residual.ensures.1 in
    rw (p.1, p.2) (stage-limits _ _ _ c.in_err-check_limits.ensures)

pub returns-then-is_none : goal.returns-then-is_none
returns-then-is_none c = stage-kind _ _ c.in_ok-check_limits.ensures _ c.own_place.ensures c.if-is_none.ensures

pub returns : goal.returns
returns c = stage-ok _ _ c.in_ok-check_limits.ensures _ c.own_place.ensures c.if-is_none.ensures
