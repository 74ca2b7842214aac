use native.Mathlib.Omega.{arith}
use Rattle.elements.proofs.Views.{few-given, short-given, fit-given}
use Rattle.encode.proofs.Storing.{room-given}
use Rattle.encode_nego.proofs.Storing.{storings, nego-list}
use borrow.Author.Rules.{rules}
use Rattle.encode_nego.proofs.write.Goals as goal

pub returns-then-heading-gt-ACCEPTOR_NEGO : goal.returns-then-heading-gt-ACCEPTOR_NEGO
returns-then-heading-gt-ACCEPTOR_NEGO c = search (rules, storings)

pub returns-then-length-ne0 : goal.returns-then-length-ne0
returns-then-length-ne0 c = nego-list _ _ _ _ _ _ _ c.if-heading-gt-ACCEPTOR_NEGO.false c.then-length-ne0.either

pub returns-then-not-fits : goal.returns-then-not-fits
returns-then-not-fits c = search (rules, storings)

pub overflow_mul-size : goal.overflow_mul-size
overflow_mul-size c =
    let k = few-given _ _ _ c.fits.ensures c.if-not-fits.false in
    record { fits = omega arith }

pub overflow_add-size-2 : goal.overflow_add-size-2
overflow_add-size-2 c =
    let k = few-given _ _ _ c.fits.ensures c.if-not-fits.false in
    let m = short-given _ _ _ c.fits.ensures c.if-not-fits.false in
    record { fits = omega arith }

pub overflow_add-size-3 : goal.overflow_add-size-3
overflow_add-size-3 c =
    let k = few-given _ _ _ c.fits.ensures c.if-not-fits.false in
    let m = short-given _ _ _ c.fits.ensures c.if-not-fits.false in
    record { fits = omega arith }

pub returns-then-not-has_room : goal.returns-then-not-has_room
returns-then-not-has_room c = search (rules, storings)

pub put_nego-requires : goal.put_nego-requires
put_nego-requires c =
    let g = c.if-not-fits.false in (
      fit-given _ _ _ c.fits.ensures g,
      (
        room-given _ _ _ _ c.has_room.ensures c.if-not-has_room.false,
        (c.if-length-gt-MOST.false, (few-given _ _ _ c.fits.ensures g, short-given _ _ _ c.fits.ensures g)),
      ),
    )

pub returns : goal.returns
returns c = search (rules, storings)
