use Rattle.std.proofs.Common.{◌≡◌, ◌&&◌, drop}
use Rattle.octets.specs.Octets.{same_id, same_octets}
use Rattle.octets.proofs.same_octets.Given as goal

abbrev pub invariant-loop-i : goal.invariant-loop-i
invariant-loop-i l = same_id l.a l.b ≡ l.same && same_octets (drop l.i l.a) (drop l.i l.b)
