use native.Mathlib.Omega.{arith}
use Rattle.script.proofs.Places.{others-are}
use Rattle.script.proofs.field.behind.Goals as goal

pub returns : goal.returns
returns c = record { fields = others-are _ _ _ c.field_end.ensures.place; onward = λ h. let u = c.field_end.ensures.onward h in omega arith }
