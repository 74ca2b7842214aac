-- The lines of a file are not too many for a number of 64 bits.
-- Assumes nothing.
use Prim.Native.Nat.{ℕ, ◌-◌, ◌<◌}
use mathlib.Core.List.{List}
use native.Mathlib.Omega.{arith}
use lib.ListN.{length}
use Rattle.console.proofs.Printing.{END}
use Rattle.recovery.specs.Recovery.{recovered_lines}
use Rattle.recovery.proofs.Bounds.{few-recovered}

pub recovered-few : (s : List ℕ) → length s < END - 1 → length (recovered_lines s) < END
recovered-few s h = omega (arith, few-recovered s)
