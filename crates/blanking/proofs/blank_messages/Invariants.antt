use Rattle.blanking.proofs.Masks.{Masking}
use Prim.Native.Nat.{◌-◌}
use mathlib.Core.Path.{◌≡◌}
use lib.ListN.{length}
use Rattle.blanking.specs.Blanked.{blanked}
use Rattle.blanking.proofs.blank_messages.Given as goal

abbrev pub invariant-loop-at : goal.invariant-loop-at
invariant-loop-at l =
    (length l.map ≡ length l.initial.map) × (length l.token ≡ length l.initial.token)
    × Masking (blanked l.initial.token) l.initial.token l.initial.token l.token l.at

abbrev pub decreases-loop-at : goal.decreases-loop-at
decreases-loop-at l = length l.initial.token - l.at
