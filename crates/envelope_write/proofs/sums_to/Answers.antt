use Rattle.std.proofs.Common.{rules}
use Rattle.envelope_write.proofs.Sums.{sums}
use Rattle.envelope_write.proofs.sums_to.Goals as goal

pub returns-then-left-size : goal.returns-then-left-size
returns-then-left-size c = search (rules, sums)

pub loop-size-preserved : goal.loop-size-preserved
loop-size-preserved c = search sums

pub returns : goal.returns
returns c = search (rules, sums)
