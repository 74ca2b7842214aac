use Prim.Native.Nat.{◌+◌}
use lib.ListN.{length}
use Rattle.merging.proofs.Rows.{RowOn}
use Rattle.merging.proofs.in_row.Given as goal

abbrev pub invariant-loop-turn : goal.invariant-loop-turn
invariant-loop-turn l = RowOn l.i l.a l.i_left l.a_left l.number

abbrev pub decreases-loop-turn : goal.decreases-loop-turn
decreases-loop-turn l = length l.i_left + length l.a_left
