-- The measure is the number of sizes.
use Rattle.std.proofs.Common.{length}
use Rattle.envelope_write.proofs.+put_identifiers.Given as goal

abbrev pub decreases-put_identifiers : goal.decreases-put_identifiers
decreases-put_identifiers l = length l.sizes.now
