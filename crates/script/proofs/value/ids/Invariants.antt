use Prim.Native.Nat.{◌+◌, ◌-◌, ◌≤◌}
use mathlib.Core.Path.{◌≡◌}
use lib.ListN.{length, take}
use Rattle.fields.specs.Fields.{behind_all}
use Rattle.script.specs.Grammar.{ids_of}
use Rattle.script.specs.Places.{fields_from}
use Rattle.script.proofs.value.ids.Given as goal

abbrev pub invariant-loop-at : goal.invariant-loop-at
invariant-loop-at l = (l.filled ≤ length l.d) × (length l.d ≡ length l.initial.d)
    × (ids_of (fields_from l.line l.from) ≡ behind_all (take l.filled l.d) (ids_of (fields_from l.line l.at)))

abbrev pub decreases-loop-at : goal.decreases-loop-at
decreases-loop-at l = length l.line + 1 - l.at
