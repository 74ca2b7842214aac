use native.Mathlib.Omega.{arith}
use Rattle.elements.proofs.Views.{few-given, short-given, fit-given}
use Rattle.encode.proofs.Storing.{room-given}
use Rattle.encode_alert.proofs.Storing.{storings}
use borrow.Author.Rules.{rules}
use Rattle.encode_alert.proofs.write.Goals as goal

pub returns-then-heading-ne-ALERT : goal.returns-then-heading-ne-ALERT
returns-then-heading-ne-ALERT c = search (rules, storings)

pub returns-then-not-fits : goal.returns-then-not-fits
returns-then-not-fits c = search (rules, storings)

pub overflow_mul-size : goal.overflow_mul-size
overflow_mul-size c =
    let k = few-given _ _ _ c.fits.ensures c.if-not-fits.false in
    record { fits = omega arith }

pub overflow_add-size : goal.overflow_add-size
overflow_add-size c =
    let k = few-given _ _ _ c.fits.ensures c.if-not-fits.false in
    let m = short-given _ _ _ c.fits.ensures c.if-not-fits.false in
    record { fits = omega arith }

pub overflow_add-size-2 : goal.overflow_add-size-2
overflow_add-size-2 c =
    let k = few-given _ _ _ c.fits.ensures c.if-not-fits.false in
    let m = short-given _ _ _ c.fits.ensures c.if-not-fits.false in
    record { fits = omega arith }

pub returns-then-not-has_room : goal.returns-then-not-has_room
returns-then-not-has_room c = search (rules, storings)

pub put_alert-requires : goal.put_alert-requires
put_alert-requires c =
    let g = c.if-not-fits.false in (
      fit-given _ _ _ c.fits.ensures g,
      (
        room-given _ _ _ _ c.has_room.ensures c.if-not-has_room.false,
        (few-given _ _ _ c.fits.ensures g, short-given _ _ _ c.fits.ensures g),
      ),
    )

pub returns : goal.returns
returns c = search (rules, storings)
