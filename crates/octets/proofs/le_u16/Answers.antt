use Rattle.std.proofs.Common.{◌∙◌, arith}
use native.Mathlib.Nat.{add-zero}
use Rattle.octets.specs.Octets.{le}
use Rattle.octets.proofs.le_u16.Goals as goal

pub returns : goal.returns
unfolding le
returns c = c.from_le_bytes.ensures ∙ simp add-zero (omega arith)
