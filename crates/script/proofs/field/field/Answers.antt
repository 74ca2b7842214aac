use Rattle.script.proofs.Places.{parts}
use Rattle.script.proofs.field.field.Goals as goal

pub returns : goal.returns
returns c = search parts
