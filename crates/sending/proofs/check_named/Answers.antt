use Rattle.std.proofs.lemmas.Result.{err_from_is_err_and}
use Rattle.calls.proofs.Refusals.{stage-inside}
use Rattle.sending.proofs.Named.{named-stage, named-refusals}
use Rattle.sending.proofs.check_named.Goals as goal

pub returns-in_err-check_stage : goal.returns-in_err-check_stage
returns-in_err-check_stage c =
    let p = err_from_is_err_and c.from_residual.result c.from_residual.ensures.1 in
    rw (p.1, p.2) (named-stage _ _ _ _ _ _ c.in_err-check_stage.ensures)

pub returns-then-not-fit : goal.returns-then-not-fit
returns-then-not-fit c = search (named-refusals, c.in_ok-check_stage.ensures)

pub scheme_allowed-requires : goal.scheme_allowed-requires
scheme_allowed-requires c = stage-inside _ _ c.in_ok-check_stage.ensures

pub returns-then-not-scheme_allowed : goal.returns-then-not-scheme_allowed
returns-then-not-scheme_allowed c = search (named-refusals, c.in_ok-check_stage.ensures)

pub returns-then-not-has_room : goal.returns-then-not-has_room
returns-then-not-has_room c = search (named-refusals, c.in_ok-check_stage.ensures)

pub returns : goal.returns
returns c = search (named-refusals, c.in_ok-check_stage.ensures)
