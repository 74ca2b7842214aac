use borrow.Author.Rules.{rules}
use Rattle.std.specs.Prelude.{option_copied}
use Rattle.std.proofs.lemmas.Result.{err_from_is_err_and}
use Rattle.replaying.proofs.Befores.{ends-file-i, ends-file-a, row-sum, ends-row, ends-none}
use Rattle.replaying.proofs.before.check_files.Goals as goal

pub returns-in_err-imessages : goal.returns-in_err-imessages
returns-in_err-imessages c =
    let p = err_from_is_err_and c.from_residual.result c.from_residual.ensures.1 in rw (p.1, p.2) (ends-file-i _ _ _ c.in_err-imessages.ensures.ending)

pub returns-in_err-amessages : goal.returns-in_err-amessages
returns-in_err-amessages c =
    let p = err_from_is_err_and c.from_residual-in_err-amessages.result c.from_residual-in_err-amessages.ensures.1 in rw (p.1, p.2)
    (ends-file-a _ _ c.in_ok-imessages.ensures.ending _ c.in_err-amessages.ensures.ending)

pub overflow_add-imessages : goal.overflow_add-imessages
overflow_add-imessages c =
    let h = row-sum (option_copied c.args.ifile) (option_copied c.args.afile) c.in_ok-imessages.ensures.ending c.in_ok-amessages.ensures.ending _ _
    c.in_ok-imessages.ensures.messages c.in_ok-amessages.ensures.messages in search (rules, h)

pub returns-then-not-in_row : goal.returns-then-not-in_row
returns-then-not-in_row c =
    let row = rw (c.octets_of.ensures, c.octets_of-2.ensures) at c.in_row.ensures in ends-row _ _ c.in_ok-imessages.ensures.ending
    c.in_ok-amessages.ensures.ending _ _ c.in_ok-imessages.ensures.messages c.in_ok-amessages.ensures.messages _ row (search rules) _ c.refuse.ensures

pub returns : goal.returns
returns c =
    let row = rw (c.octets_of.ensures, c.octets_of-2.ensures) at c.in_row.ensures in ends-none _ _ c.in_ok-imessages.ensures.ending
    c.in_ok-amessages.ensures.ending _ _ c.in_ok-imessages.ensures.messages c.in_ok-amessages.ensures.messages _ row (search rules)
