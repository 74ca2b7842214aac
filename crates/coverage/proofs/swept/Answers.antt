use Rattle.std.proofs.Common.{arith, length}
use Rattle.coverage.proofs.Marks.{sweep-done, sweep-more, bit}
use Rattle.coverage.proofs.swept.Goals as goal

pub loop-at-preserved : goal.loop-at-preserved
loop-at-preserved c =
    let l = c.loop-at in
    record {
      few = omega (arith, bit _ _ c.from-count.ensures);
      counted =
          sweep-more c.args.map.now _ l.far l.count (length c.args.map.now) l.at _ _ c.loop-at-test.true c.greatest-far.ensures c.from-count.ensures
          l.invariant.counted;
    }

pub returns : goal.returns
returns c =
    let l = c.loop-at in
    sweep-done c.args.map.now _ l.far l.count (length c.args.map.now) l.at c.loop-at-test.false l.invariant.counted
