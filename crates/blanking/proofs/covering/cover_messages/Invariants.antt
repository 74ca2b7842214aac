use Rattle.blanking.specs.Blanked.{kept}
use Rattle.blanking.specs.Covered.{covered}
use lib.ListN.{length}
use mathlib.Core.Path.{◌≡◌}
use Prim.Native.Nat.{◌-◌}
use Rattle.blanking.proofs.Masks.{Masking}
use Rattle.blanking.proofs.covering.cover_messages.Given as goal

abbrev pub invariant-loop-at : goal.invariant-loop-at
invariant-loop-at l =
    (length l.map ≡ length l.initial.map) × (length l.mask ≡ length l.initial.mask)
    × Masking (kept (covered l.token) l.initial.mask 0) l.token l.initial.mask l.mask l.at

abbrev pub decreases-loop-at : goal.decreases-loop-at
decreases-loop-at l = length l.token - l.at
