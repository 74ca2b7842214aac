use mathlib.Core.Path.{◌≡◌}
use mathlib.Core.List.{◌++◌}
use lib.ListN.{length, take, drop}
use Rattle.blanking.specs.Wiped.{headed, wiped}
use Rattle.blanking.proofs.wipe.Given as goal

abbrev pub invariant-loop-at : goal.invariant-loop-at
invariant-loop-at l =
    (length l.m ≡ length l.initial.m)
    × (wiped (headed l.kind.0) l.map 0 l.initial.m 0 ≡ take l.at l.m ++ wiped (headed l.kind.0) l.map l.far (drop l.at l.m) l.at)
