use Prim.Native.Nat.{◌+◌, ◌≤◌}
use mathlib.Core.Path.{◌≡◌}
use lib.ListN.{length}
use Rattle.token.proofs.Messages.{more, outcome_from}
use Rattle.token.proofs.read_messages.Given as goal

abbrev pub invariant-loop-rest : goal.invariant-loop-rest
invariant-loop-rest l = (l.count + length l.rest ≤ length l.token) × (l.place.0 + length l.rest ≡ length l.token) × (l.sequence ≡ l.first + l.count)
    × (outcome_from l.token 0 l.first l.conversation ≡ more l.count (outcome_from l.rest l.place.0 l.sequence l.conversation))

abbrev pub decreases-loop-rest : goal.decreases-loop-rest
decreases-loop-rest l = length l.rest
