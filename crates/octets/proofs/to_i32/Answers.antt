use Rattle.std.proofs.Common.{◌∙◌, rules}
use mir.Syntax.{w32}
use mir.Facts.{to_z-of_z}
use Rattle.octets.proofs.Signed.{machine}
use Rattle.octets.proofs.to_i32.Goals as goal

pub returns : goal.returns
returns c = to_z-of_z {w = w32} (search rules) ∙ c.cast_signed.ensures ∙ machine c.args.x
