-- A line's first word, in the words of the code.
-- Assumes nothing.
use Prim.Native.Nat.{ℕ}
use mathlib.Core.Path.{◌≡◌, sym}
use mathlib.Core.List.{List}
use lib.Dec.{eqb}
use lib.ListN.{length, take}
use lib.Pointwise.{pointwise}
use Rattle.octets.proofs.Same.{compared}
use Rattle.envelope_script.specs.Grammar.{begins}

pub begins_so : (w s : List ℕ) → begins w s ≡ pointwise eqb (take (length w) s) w
unfolding begins
begins_so w s = sym (compared (take (length w) s) w)
