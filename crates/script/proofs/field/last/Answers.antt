use Rattle.script.proofs.Places.{parts}
use Rattle.script.proofs.field.last.Goals as goal

pub returns-then-end-s : goal.returns-then-end-s
returns-then-end-s c = search parts

pub returns : goal.returns
returns c = search parts
