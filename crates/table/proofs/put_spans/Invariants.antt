use Rattle.std.proofs.Common.{◌*◌, ◌≤◌, ◌≡◌, length, take}
use Rattle.coverage.specs.Coverage.{vectors_in}
use Rattle.put.specs.Put.{Written}
use Rattle.table.specs.Table.{spans_in, numbers}
use Rattle.table.proofs.put_spans.Given as goal

abbrev pub invariant-loop-k : goal.invariant-loop-k
invariant-loop-k l = (l.k ≤ length (vectors_in l.m)) × (length l.d ≡ length l.initial.d)
    × Written l.initial.d l.at (8 * l.k) (numbers (spans_in l.place.0 (take l.k (vectors_in l.m)))) l.d l.next
