use Rattle.std.proofs.Common.{◌≡◌, ◌≤◌}
use Rattle.std.specs.Slice.Iter.{chunks_exact_rest, chunks_exact_size}
use Rattle.message.specs.Show.{ids_of}
use Rattle.offers.specs.Table.{entered_all_in}
use Rattle.offers.proofs.enter_all.Given as goal

abbrev pub invariant-loop-id : goal.invariant-loop-id
invariant-loop-id l =
    (goal.iterator-loop-id).can_next l.id-iterator × (goal.iterator-loop-id).is_finite l.id-iterator × (chunks_exact_size l.id-iterator ≡ 16)
    × (l.entered.count ≤ 64)
    × (entered_all_in l.initial.entered (ids_of l.list) ≡ entered_all_in l.entered (ids_of (chunks_exact_rest l.id-iterator)))
