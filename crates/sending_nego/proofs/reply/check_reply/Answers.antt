use Rattle.std.proofs.lemmas.Result.{err_from_is_err_and}
use mathlib.Core.List.{[]}
use native.Mathlib.Omega.{arith}
use Rattle.conversation.specs.Writing.{NegoContent}
use Rattle.sending_nego.proofs.Replying.{reply-few, reply-stage, reply-role, reply-marks, reply-extensions, reply-none, reply-crowded, reply-fits}
use Rattle.sending_nego.proofs.reply.check_reply.Goals as goal

pub returns-in_err-check_stage : goal.returns-in_err-check_stage
returns-in_err-check_stage c =
    let g : NegoContent = record { random = []; test = c.args.test; extensions = c.args.extensions; values = c.args.values.now } in
    let p = err_from_is_err_and c.from_residual.result c.from_residual.ensures.1 in
    rw (p.1, p.2) (reply-stage _ _ g _ _ c.in_err-check_stage.ensures)

pub returns-then-not-r : goal.returns-then-not-r
returns-then-not-r c =
    let g : NegoContent = record { random = []; test = c.args.test; extensions = c.args.extensions; values = c.args.values.now } in
    reply-role _ _ g _ c.in_ok-check_stage.ensures c.if-not-r.true

pub overflow_cast-r : goal.overflow_cast-r
overflow_cast-r c = let h = reply-few _ c.in_ok-check_stage.ensures in omega arith

pub returns-then-not-within : goal.returns-then-not-within
returns-then-not-within c =
    let g : NegoContent = record { random = []; test = c.args.test; extensions = c.args.extensions; values = c.args.values.now } in
    reply-marks _ _ g _ c.in_ok-check_stage.ensures
    c.if-not-r.false _ c.within.ensures c.if-not-within.true

pub returns-in_err-check_extensions : goal.returns-in_err-check_extensions
returns-in_err-check_extensions c =
    let g : NegoContent = record { random = []; test = c.args.test; extensions = c.args.extensions; values = c.args.values.now } in
    let p = err_from_is_err_and c.from_residual-in_err-check_extensions.result c.from_residual-in_err-check_extensions.ensures.1 in
    rw (p.1, p.2)
    (reply-extensions _ _ g _ c.in_ok-check_stage.ensures c.if-not-r.false _ c.within.ensures c.if-not-within.false _
    c.in_err-check_extensions.ensures)

pub returns-then-left-eq0 : goal.returns-then-left-eq0
returns-then-left-eq0 c =
    let g : NegoContent = record { random = []; test = c.args.test; extensions = c.args.extensions; values = c.args.values.now } in
    reply-none _ _ g _ c.in_ok-check_stage.ensures c.if-not-r.false _ c.within.ensures c.if-not-within.false c.in_ok-check_extensions.ensures _
    c.choose_own-left.ensures c.if-left-eq0.true

pub returns-then-not-has_room : goal.returns-then-not-has_room
returns-then-not-has_room c =
    let g : NegoContent = record { random = []; test = c.args.test; extensions = c.args.extensions; values = c.args.values.now } in
    reply-crowded _ _ g _ c.in_ok-check_stage.ensures c.if-not-r.false _ c.within.ensures
    c.if-not-within.false c.in_ok-check_extensions.ensures _ c.choose_own-left.ensures
    c.if-left-eq0.false _ c.size_of-size.ensures _ c.has_room.ensures c.if-not-has_room.true

pub returns : goal.returns
returns c =
    let g : NegoContent = record { random = []; test = c.args.test; extensions = c.args.extensions; values = c.args.values.now } in
    reply-fits _ _ g _ c.in_ok-check_stage.ensures c.if-not-r.false _ c.within.ensures c.if-not-within.false c.in_ok-check_extensions.ensures _
    c.choose_own-left.ensures c.if-left-eq0.false _
    c.size_of-size.ensures _ c.has_room.ensures c.if-not-has_room.false
