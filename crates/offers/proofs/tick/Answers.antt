use Rattle.std.proofs.Common.{arith, ◌∙◌, length-set}
use Rattle.coverage.proofs.Marks.{one-le}
use Rattle.offers.proofs.Entering.{below_set, ticks-done, ticks-more}
use Rattle.offers.proofs.tick.Goals as goal

pub overflow_add-ticked : goal.overflow_add-ticked
overflow_add-ticked c = omega (arith, one-le _ _ c.one_listed.ensures, c.loop-k.invariant.small c.loop-k.k (omega arith))

pub loop-k-preserved : goal.loop-k-preserved
loop-k-preserved c =
    let l = c.loop-k in
    record {
      size = length-set _ _ _ ∙ l.invariant.size;
      small = below_set 9223372036854775808 l.k l.ticked _ l.invariant.small;
      ticks = ticks-more c.args.ids.now _ _ l.ticked c.args.n l.k _ c.loop-k-test.true c.one_listed.ensures l.invariant.ticks;
    }

pub returns : goal.returns
returns c = let l = c.loop-k in ticks-done c.args.ids.now _ _ l.ticked c.args.n l.k c.loop-k-test.false l.invariant.ticks
