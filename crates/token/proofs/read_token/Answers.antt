use Rattle.std.proofs.lemmas.Result.{err_from_is_err_and}
use Rattle.token.proofs.Messages.{readings}
use Rattle.token.proofs.read_token.Goals as goal

pub returns-then-token-gt65535 : goal.returns-then-token-gt65535
returns-then-token-gt65535 c = search readings

pub returns-then-token-lt-COMMON_HEADER : goal.returns-then-token-lt-COMMON_HEADER
returns-then-token-lt-COMMON_HEADER c = search readings

pub returns-in_err-count : goal.returns-in_err-count
returns-in_err-count c =
    let p = err_from_is_err_and c.from_residual.result c.from_residual.ensures.1 in
    let e = c.in_err-count.ensures in
    rw (p.1, p.2) (search (readings, e))

pub returns : goal.returns
returns c = let e = c.in_ok-count.ensures in search (readings, e)
