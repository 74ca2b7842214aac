use Rattle.std.proofs.lemmas.Result.{err_from_is_err_and}
use Rattle.admitting.proofs.Admits.{admit-14, admit-15, admit-on}
use Rattle.admitting.proofs.admit.admit_message.Goals as goal

pub returns-in_err-position : goal.returns-in_err-position
returns-in_err-position c =
    let p = err_from_is_err_and c.from_residual.result c.from_residual.ensures.1 in
    rw (p.1, p.2)
    (admit-14 _ _ _ _ _ c.le_u32.ensures _ c.class_of-class.ensures _ c.reading_token-token.ensures _ c.confirmed_for-confirmed.ensures _
    c.place_after.ensures _ c.ok_or.ensures.value _ c.in_err-position.was)

pub returns-then-not-scheme_fits : goal.returns-then-not-scheme_fits
returns-then-not-scheme_fits c =
    admit-15 _ _ _ _ _ c.le_u32.ensures _ c.class_of-class.ensures _ c.reading_token-token.ensures _ c.confirmed_for-confirmed.ensures _
    c.place_after.ensures _ c.ok_or.ensures.value _ c.in_ok-position.was _ c.scheme_fits.ensures c.if-not-scheme_fits.true

pub returns : goal.returns
returns c =
    admit-on _ _ _ _ _ c.le_u32.ensures _ c.class_of-class.ensures _ c.reading_token-token.ensures _ c.confirmed_for-confirmed.ensures _
    c.place_after.ensures _ c.ok_or.ensures.value _ c.in_ok-position.was _ c.scheme_fits.ensures c.if-not-scheme_fits.false _ c.carry.ensures
