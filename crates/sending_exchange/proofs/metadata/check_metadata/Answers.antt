use Rattle.std.proofs.lemmas.Result.{err_from_is_err_and}
use Rattle.calls.proofs.Refusals.{stage-inside}
use Rattle.sending_exchange.proofs.Tellings.{meta-stage, metadata-refusals}
use Rattle.sending_exchange.proofs.metadata.check_metadata.Goals as goal

pub returns-in_err-check_stage : goal.returns-in_err-check_stage
returns-in_err-check_stage c =
    let p = err_from_is_err_and c.from_residual.result c.from_residual.ensures.1 in
    rw (p.1, p.2) (meta-stage _ _ _ _ _ c.in_err-check_stage.ensures)

pub returns-then-n-lt1 : goal.returns-then-n-lt1
returns-then-n-lt1 c = search (metadata-refusals, c.in_ok-check_stage.ensures)

pub metadata_allowed-requires : goal.metadata_allowed-requires
metadata_allowed-requires c = stage-inside _ _ c.in_ok-check_stage.ensures

pub returns-then-not-metadata_allowed : goal.returns-then-not-metadata_allowed
returns-then-not-metadata_allowed c = search (metadata-refusals, c.in_ok-check_stage.ensures)

pub returns-then-not-has_room : goal.returns-then-not-has_room
returns-then-not-has_room c = search (metadata-refusals, c.in_ok-check_stage.ensures)

pub returns : goal.returns
returns c = search (metadata-refusals, c.in_ok-check_stage.ensures)
