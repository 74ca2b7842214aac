use Prim.Native.Nat.{◌-◌, ◌*◌, ◌/◌}
use mathlib.Core.Path.{◌≡◌}
use lib.ListN.{length}
use Rattle.message.specs.Layout.{elements_at, elements_of}
use Rattle.faults.specs.Faults.{first_critical}
use Rattle.faults.proofs.critical_element.Given as goal

abbrev pub invariant-loop-k : goal.invariant-loop-k
invariant-loop-k l = first_critical (elements_of l.array) 0 ≡ first_critical (elements_at (length l.array / 12 - l.k) l.array (12 * l.k)) l.k
