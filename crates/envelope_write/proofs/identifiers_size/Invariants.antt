use Rattle.std.proofs.Common.{◌≡◌, ◌+◌, ◌≤◌, drop}
use Rattle.der.specs.Holder.{capped}
use Rattle.envelope_write.specs.Given.{identifiers_size}
use Rattle.envelope_write.proofs.identifiers_size.Given as goal

abbrev pub invariant-loop-size : goal.invariant-loop-size
invariant-loop-size l = (l.total ≤ 65536) × (capped (identifiers_size l.sizes) ≡ capped (l.total + identifiers_size (drop l.size-index l.sizes)))
