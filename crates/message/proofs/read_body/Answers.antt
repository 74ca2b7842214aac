use Rattle.std.proofs.lemmas.Result.{err_from_is_err_and}
use Rattle.message.proofs.Readings.{body_refused, body-read}
use Rattle.message.proofs.read_body.Goals as goal

pub returns-in_err-check : goal.returns-in_err-check
returns-in_err-check c =
    let p = err_from_is_err_and c.from_residual.result c.from_residual.ensures.1 in
    rw (p.1, p.2) (body_refused _ _ c.requires _ (c.in_err-check.ensures))

pub returns : goal.returns
returns c = body-read _ _ c.requires (c.in_ok-check.ensures)
