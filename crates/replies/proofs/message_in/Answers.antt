use Rattle.std.proofs.Common.{rules, ◌≡◌, length}
use Rattle.std.proofs.lemmas.Result.{err_from_is_err_and}
use Rattle.replies.proofs.Messages.{message-refused, none-beyond}
use Rattle.replies.proofs.message_in.Goals as goal

pub returns-in_err-accepted : goal.returns-in_err-accepted
returns-in_err-accepted c =
    let p = err_from_is_err_and c.from_residual.result c.from_residual.ensures.1 in
    rw (p.1, p.2) (message-refused _ _ _ c.in_err-accepted.ensures)

pub returns-then-is_empty : goal.returns-then-is_empty
returns-then-is_empty c =
    let empty : length c.message_at-m.result.now ≡ 0 = search rules in
    none-beyond _ _ _ c.message_at-m.ensures empty c.in_ok-accepted.ensures.0
