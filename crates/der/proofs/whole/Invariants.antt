use Rattle.std.proofs.Common.{◌≡◌, ◌≤◌, drop}
use Rattle.der.specs.Element.{number_from}
use Rattle.der.specs.Holder.{capped}
use Rattle.der.proofs.whole.Given as goal

abbrev pub invariant-loop-x : goal.invariant-loop-x
invariant-loop-x l = (l.value ≤ 65536) × (capped (number_from 0 l.v) ≡ capped (number_from l.value (drop l.x-index l.v)))
