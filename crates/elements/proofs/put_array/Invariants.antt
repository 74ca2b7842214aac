use Prim.Native.Nat.{◌-◌}
use lib.ListN.{length}
use Rattle.std.specs.Iterator.Adapters.{zip_first}
use Rattle.std.specs.Slice.Iter.{iter_rest}
use Rattle.elements.proofs.Arrays.{Left}
use Rattle.elements.proofs.put_array.Given as goal

abbrev pub invariant-loop-kind : goal.invariant-loop-kind
invariant-loop-kind l =
    (goal.iterator-loop-kind).can_next l.kind-iterator ×
    (goal.iterator-loop-kind).is_finite l.kind-iterator ×
    Left l.fn.e.types l.fn.e.sizes l.initial.d l.at l.fn.e.count l.initial.offset l.d
    (l.fn.e.count - length (iter_rest (zip_first l.kind-iterator))) l.place l.offset
