use Prim.Native.Nat.{◌-◌}
use mathlib.Core.Path.{◌≡◌}
use lib.ListN.{length}
use Rattle.windows.specs.Windows.{texts}
use Rattle.windows.specs.Steps.{within, steps}
use Rattle.recovery.specs.Recovery.{taken_of, pieces_of, all_piece_lines}
use Rattle.recovery.proofs.Scanning.{OnWay}
use Rattle.recovery.proofs.show_pieces.Given as goal

abbrev pub invariant-loop-scan : goal.invariant-loop-scan
invariant-loop-scan l =
    (length l.d ≡ length l.initial.d)
    × OnWay l.file (steps (texts (all_piece_lines (pieces_of l.file))) (within l.initial.scan.progress l.initial.d)) (length (taken_of l.file)) l.scan l.d

abbrev pub decreases-loop-scan : goal.decreases-loop-scan
decreases-loop-scan l = length l.file - l.scan.place.0
