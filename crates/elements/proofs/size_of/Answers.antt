use native.Mathlib.Omega.{arith}
use Rattle.elements.proofs.Views.{few-given, short-given, sizes}
use borrow.Author.Rules.{rules}
use Rattle.elements.proofs.size_of.Goals as goal

pub returns-then-not-fits : goal.returns-then-not-fits
returns-then-not-fits c = search (rules, sizes)

pub overflow_mul-result : goal.overflow_mul-result
overflow_mul-result c = let k = few-given _ _ _ c.fits.ensures c.if-not-fits.false in record { fits = omega arith }

pub overflow_add-result : goal.overflow_add-result
overflow_add-result c =
    let k = few-given _ _ _ c.fits.ensures c.if-not-fits.false in
    let m = short-given _ _ _ c.fits.ensures c.if-not-fits.false in
    record { fits = omega arith }

pub returns : goal.returns
returns c = search (rules, sizes)
