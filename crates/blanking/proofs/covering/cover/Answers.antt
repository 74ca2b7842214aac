use Rattle.std.proofs.Common.{rules}
use Rattle.std.proofs.lemmas.Result.{err_from_is_err_and}
use Rattle.blanking.proofs.Wipes.{read-accepts}
use Rattle.blanking.proofs.Masks.{cover-other, cover-done, cover-refused}
use Rattle.blanking.proofs.covering.cover.Goals as goal

pub returns-in_err-n : goal.returns-in_err-n
returns-in_err-n c =
    let p = err_from_is_err_and c.from_residual.result c.from_residual.ensures.1 in rw (p.1, p.2) (cover-refused _ _ c.in_err-n.field-0.0 c.in_err-n.ensures)

pub returns-then-mask-token : goal.returns-then-mask-token
returns-then-mask-token c = cover-other _ _ _ c.in_ok-n.ensures c.if-mask-token.true

pub cover_messages-requires : goal.cover_messages-requires
cover_messages-requires c = (read-accepts _ _ c.in_ok-n.ensures, search rules, search rules)

pub returns : goal.returns
returns c = cover-done _ _ _ c.in_ok-n.ensures (search rules) _ c.cover_messages.ensures
