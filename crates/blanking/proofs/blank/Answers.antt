use Rattle.std.proofs.Common.{rules}
use Rattle.std.proofs.lemmas.Result.{err_from_is_err_and}
use Rattle.blanking.proofs.Wipes.{read-accepts, blank-refused}
use Rattle.blanking.proofs.blank.Goals as goal

pub returns-in_err-n : goal.returns-in_err-n
returns-in_err-n c =
    let p = err_from_is_err_and c.from_residual.result c.from_residual.ensures.1 in rw (p.1, p.2) (blank-refused _ c.in_err-n.field-0.0 c.in_err-n.ensures)

pub blank_messages-requires : goal.blank_messages-requires
blank_messages-requires c = (read-accepts _ _ c.in_ok-n.ensures, search rules)
