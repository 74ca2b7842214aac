use mathlib.Core.Path.{◌≡◌}
use Rattle.std.specs.Slice.Iter.{chunks_exact_rest, chunks_exact_size}
use Rattle.message.specs.Show.{ids_at, ids_of}
use Rattle.schemes.proofs.Mentions.{Keeping}
use Rattle.schemes.proofs.reply.kept_places.Given as goal

abbrev pub invariant-loop-id : goal.invariant-loop-id
invariant-loop-id l =
    (goal.iterator-loop-id).can_next l.id-iterator ×
    (goal.iterator-loop-id).is_finite l.id-iterator ×
    (chunks_exact_size l.id-iterator ≡ 16) ×
    Keeping (ids_at l.n l.own) (ids_of l.peer) (ids_of (chunks_exact_rest l.id-iterator)) l.kept
