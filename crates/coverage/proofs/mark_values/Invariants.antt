use Rattle.std.proofs.Common.{◌≡◌, ◌-◌, ◌*◌, ◌/◌, length}
use Rattle.message.specs.Layout.{values_of, elements_of}
use Rattle.coverage.specs.Sweep.{marked_all}
use Rattle.coverage.proofs.Marks.{values_from}
use Rattle.coverage.proofs.mark_values.Given as goal

abbrev pub invariant-loop-k : goal.invariant-loop-k
invariant-loop-k l = record {
  size : length l.map ≡ length l.initial.map;
  marks : marked_all l.initial.map (values_of (elements_of l.array)) ≡ marked_all l.map (values_from (length l.array / 12 - l.k) l.array (12 * l.k));
}
