use Rattle.std.proofs.lemmas.Result.{err_from_is_err_and}
use mathlib.Core.List.{[]}
use Rattle.conversation.specs.Writing.{NegoContent}
use Rattle.sending_nego.proofs.Offering.{offer-stage, offer-list-size, offer-header-size, offer-role, offer-extensions, offer-crowded, offer-fits}
use Rattle.sending_nego.proofs.offer.check_offer.Goals as goal

pub returns-in_err-check_stage : goal.returns-in_err-check_stage
returns-in_err-check_stage c =
    let g : NegoContent = record { random = []; test = c.args.test; extensions = c.args.extensions; values = c.args.values.now } in
    let p = err_from_is_err_and c.from_residual.result c.from_residual.ensures.1 in
    rw (p.1, p.2) (offer-stage _ g _ _ c.in_err-check_stage.ensures)

pub returns-then-r : goal.returns-then-r
returns-then-r c =
    let g : NegoContent = record { random = []; test = c.args.test; extensions = c.args.extensions; values = c.args.values.now } in
    offer-role _ g _ c.in_ok-check_stage.ensures c.if-r.true

pub returns-in_err-check_extensions : goal.returns-in_err-check_extensions
returns-in_err-check_extensions c =
    let g : NegoContent = record { random = []; test = c.args.test; extensions = c.args.extensions; values = c.args.values.now } in
    let p = err_from_is_err_and c.from_residual-in_err-check_extensions.result c.from_residual-in_err-check_extensions.ensures.1 in
    rw (p.1, p.2) (offer-extensions _ g _ c.in_ok-check_stage.ensures c.if-r.false _ c.in_err-check_extensions.ensures)

pub overflow_mul-r : goal.overflow_mul-r
overflow_mul-r c =
    let g : NegoContent = record { random = []; test = c.args.test; extensions = c.args.extensions; values = c.args.values.now } in
    record {
      fits = offer-list-size _ g 0 c.in_ok-check_stage.ensures;
    }

pub overflow_add-r : goal.overflow_add-r
overflow_add-r c =
    let g : NegoContent = record { random = []; test = c.args.test; extensions = c.args.extensions; values = c.args.values.now } in
    record {
      fits = offer-header-size _ g 0 c.in_ok-check_stage.ensures;
    }

pub returns-then-not-has_room : goal.returns-then-not-has_room
returns-then-not-has_room c =
    let g : NegoContent = record { random = []; test = c.args.test; extensions = c.args.extensions; values = c.args.values.now } in
    offer-crowded _ g _ c.in_ok-check_stage.ensures c.if-r.false c.in_ok-check_extensions.ensures _
    c.size_of-size.ensures _ c.has_room.ensures c.if-not-has_room.true

pub returns : goal.returns
returns c =
    let g : NegoContent = record { random = []; test = c.args.test; extensions = c.args.extensions; values = c.args.values.now } in
    offer-fits _ g _ c.in_ok-check_stage.ensures c.if-r.false c.in_ok-check_extensions.ensures _
    c.size_of-size.ensures _ c.has_room.ensures c.if-not-has_room.false
