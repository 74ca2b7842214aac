use native.Mathlib.Omega.{arith}
use mir.Syntax.{w64}
use mir.Facts.{to_z_pos}
use Rattle.replies.proofs.number.Goals as goal

pub returns : goal.returns
returns c = to_z_pos w64 {n = c.args.n} (omega arith)
