use lib.ListN.{length}
use Rattle.turning.proofs.Saying.{SpeakOn}
use Rattle.turning.proofs.spoke.speak.Given as goal

abbrev pub invariant-loop-rest : goal.invariant-loop-rest
invariant-loop-rest l = SpeakOn l.t l.initial.spoken l.spoken l.rest

abbrev pub decreases-loop-rest : goal.decreases-loop-rest
decreases-loop-rest l = length l.rest
