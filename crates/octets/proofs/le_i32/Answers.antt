use Rattle.std.proofs.Common.{◌∙◌, ap, rules}
use mir.Syntax.{w32}
use mir.Facts.{to_z-of_z}
use Rattle.octets.specs.Octets.{signed32}
use Rattle.octets.proofs.le_i32.Goals as goal

pub returns : goal.returns
returns c = to_z-of_z {w = w32} (search rules) ∙ c.to_i32.ensures ∙ ap signed32 c.le_u32.ensures
