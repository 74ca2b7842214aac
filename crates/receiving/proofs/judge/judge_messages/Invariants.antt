use Prim.Native.Nat.{◌+◌, ◌≤◌}
use mathlib.Core.Path.{◌≡◌}
use lib.ListN.{length}
use Rattle.token.specs.Token.{chain_of}
use Rattle.conversation.specs.Reading.{start_of, judge}
use Rattle.receiving.proofs.judge.judge_messages.Given as goal

abbrev pub invariant-loop-rest : goal.invariant-loop-rest
invariant-loop-rest l =
    (l.count + length l.rest ≤ length l.t) × (l.place.0 + length l.rest ≡ length l.t)
    × (l.sequence ≡ l.r.sequence + l.count) × (l.scan.named ≤ l.count)
    × (judge l.r l.t 0 (start_of l.r) (chain_of l.t 0 0 l.r.sequence l.conversation)
    ≡ judge l.r l.t l.count l.scan (chain_of l.rest 0 l.place.0 l.sequence l.conversation))

abbrev pub decreases-loop-rest : goal.decreases-loop-rest
decreases-loop-rest l = length l.rest
