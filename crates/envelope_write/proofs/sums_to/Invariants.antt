use Rattle.std.proofs.Common.{◌≡◌, drop}
use lib.Dec.{eqb}
use Rattle.envelope_write.specs.Given.{sum_of}
use Rattle.envelope_write.proofs.sums_to.Given as goal

abbrev pub invariant-loop-size : goal.invariant-loop-size
invariant-loop-size l = eqb l.total (sum_of l.sizes) ≡ eqb l.left (sum_of (drop l.size-index l.sizes))
