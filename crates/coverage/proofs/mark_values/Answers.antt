use Rattle.std.proofs.Common.{ap, ◌∙◌, ◌/◌, length}
use Rattle.coverage.proofs.Sweeps.{length_marked}
use Rattle.coverage.proofs.Marks.{values-done, values-more}
use Rattle.coverage.proofs.mark_values.Goals as goal

pub loop-k-preserved : goal.loop-k-preserved
loop-k-preserved c =
    let l = c.loop-k in
    record {
      size = ap length c.mark.ensures ∙ length_marked l.map _ ∙ l.invariant.size;
      marks =
          values-more c.args.array.now _ l.map (length c.args.array.now / 12) l.k _ _ c.loop-k-test.true c.octet_vector.ensures c.mark.ensures
          l.invariant.marks;
    }

pub returns : goal.returns
returns c = let l = c.loop-k in values-done c.args.array.now _ l.map (length c.args.array.now / 12) l.k c.loop-k-test.false l.invariant.marks
