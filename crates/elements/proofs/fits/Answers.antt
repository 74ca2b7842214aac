use mathlib.Core.Path.{◌≡◌, refl}
use native.Mathlib.Omega.{arith}
use lib.ListN.{length}
use borrow.Author.Rules.{rules}
use Rattle.elements.proofs.Limits.{fit-many, tested-turn, tested-fits, tested-stop, tested-end}
use Rattle.elements.proofs.fits.Goals as goal

pub returns-then-e-gt-MOST : goal.returns-then-e-gt-MOST
returns-then-e-gt-MOST c = fit-many _ _ c.if-e-gt-MOST.true

pub loop-size-init : goal.loop-size-init
loop-size-init c = record { same = refl; more = omega arith; small = omega arith }

pub returns-then-size-gt-VALUE_MOST : goal.returns-then-size-gt-VALUE_MOST
returns-then-size-gt-VALUE_MOST c =
    let whole : length c.args.e.sizes ≡ 8 = search rules in
    tested-stop c.args.e c.args.values.now c.if-e-gt-MOST.false whole _ _ c.loop-size.invariant c.loop-size-test.true c.if-size-gt-VALUE_MOST.true

pub overflow_add-total : goal.overflow_add-total
overflow_add-total c =
    let whole : length c.args.e.sizes ≡ 8 = search rules in
    record {
      fits = tested-fits c.args.e c.args.values.now c.if-e-gt-MOST.false whole _ _ c.loop-size.invariant c.loop-size-test.true c.if-size-gt-VALUE_MOST.false;
    }

pub loop-size-preserved : goal.loop-size-preserved
loop-size-preserved c =
    let whole : length c.args.e.sizes ≡ 8 = search rules in
    tested-turn c.args.e c.args.values.now c.if-e-gt-MOST.false whole _ _ c.loop-size.invariant c.loop-size-test.true c.if-size-gt-VALUE_MOST.false

pub returns : goal.returns
returns c =
    let whole : length c.args.e.sizes ≡ 8 = search rules in
    tested-end c.args.e c.args.values.now c.if-e-gt-MOST.false whole _ _ c.loop-size.invariant c.loop-size-test.false
