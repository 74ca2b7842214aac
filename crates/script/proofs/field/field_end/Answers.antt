use native.Mathlib.Omega.{arith}
use Rattle.script.proofs.Places.{parts}
use borrow.Author.Rules.{rules}
use Rattle.script.proofs.field.field_end.Goals as goal

pub returns-then-s-from : goal.returns-then-s-from
returns-then-s-from c = record { place = search parts; inside = search rules; onward = λ h. absurd (omega arith) }

pub returns : goal.returns
returns c = record { place = search parts; inside = search rules; onward = λ h. omega arith }
