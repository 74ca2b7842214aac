use lib.ListN.{length, drop}
use mathlib.Core.Path.{◌≡◌}
use Rattle.coverage.specs.Coverage.{vectors_in}
use Rattle.faults.specs.Faults.{first_broken, broken_in}
use Rattle.faults.proofs.broken_vector.Given as goal

abbrev pub invariant-loop-k : goal.invariant-loop-k
invariant-loop-k l = broken_in l.m ≡ first_broken l.header (length l.m) (drop l.k (vectors_in l.m)) l.k
