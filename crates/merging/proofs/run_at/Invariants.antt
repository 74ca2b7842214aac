use lib.ListN.{length}
use Rattle.merging.proofs.Runs.{RunOn}
use Rattle.merging.proofs.run_at.Given as goal

abbrev pub invariant-loop-left : goal.invariant-loop-left
invariant-loop-left l = RunOn l.rest l.first l.left l.octets l.messages

abbrev pub decreases-loop-left : goal.decreases-loop-left
decreases-loop-left l = length l.left
