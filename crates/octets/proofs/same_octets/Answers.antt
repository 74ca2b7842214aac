use Rattle.octets.proofs.Same.{ids}
use Rattle.octets.proofs.same_octets.Goals as goal
use Rattle.octets.proofs.same_octets.Goals.{then-a-i, else-a-i}

pub loop-i-init : goal.loop-i-init
loop-i-init c = search ids

pub loop-i-preserved : goal.loop-i-preserved
loop-i-preserved c = elim c.if-a-i.branch [ then-a-i w ↦ search ids | else-a-i w ↦ search ids ]

pub returns : goal.returns
returns c = search ids
