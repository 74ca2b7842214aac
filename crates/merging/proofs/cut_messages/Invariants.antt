use lib.ListN.{length}
use Rattle.merging.proofs.Cuts.{CutOn}
use Rattle.merging.proofs.cut_messages.Given as goal

abbrev pub invariant-loop-rest : goal.invariant-loop-rest
invariant-loop-rest l = CutOn l.file l.rest l.place.0 l.messages

abbrev pub decreases-loop-rest : goal.decreases-loop-rest
decreases-loop-rest l = length l.rest
