use borrow.Author.Rules.{rules}
use native.Mathlib.Omega.{arith}
use Prim.Native.Nat.{◌+◌}
use lib.ListN.{length}
use Rattle.replay_case.proofs.Lines.{nexts, part-size}
use Rattle.replay_case.proofs.next_line.Goals as goal

pub returns-then-counts : goal.returns-then-counts
returns-then-counts c = search (rules, nexts)

pub loop-rest-preserved : goal.loop-rest-preserved
loop-rest-preserved c =
    record {
      size = rw c.part-rest.ensures
          (let h = part-size c.loop-rest.rest.now (c.find-end.result + 1) (length c.loop-rest.rest.now) in let k = c.loop-rest.invariant.size in omega arith);
      lines = search (rules, nexts);
    }

pub returns : goal.returns
returns c = search (rules, nexts)
