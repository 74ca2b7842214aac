use mathlib.Core.Path.{◌≡◌}
use lib.ListN.{length}
use Rattle.replaying.specs.Playing.{summary, counted, rest_of}
use Rattle.replaying.proofs.Alls.{AllOn, left}
use Rattle.replay_files.proofs.turns.show_turns.Given as goal

abbrev pub invariant-loop-marks : goal.invariant-loop-marks
invariant-loop-marks l =
    AllOn l.marks l.ifile l.afile (counted l.initial.replay.turns (summary (rest_of l.marks l.ifile l.afile l.initial.replay l.initial.d))) l.replay l.d
    × (length l.d ≡ length l.initial.d)
    × (length l.text ≡ length l.initial.text)

abbrev pub decreases-loop-marks : goal.decreases-loop-marks
decreases-loop-marks l = left l.ifile l.afile l.replay
