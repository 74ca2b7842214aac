use Rattle.text.proofs.Pieces.{chains}
use Rattle.text.proofs.wide_field.Goals as goal

pub returns : goal.returns
returns c = search chains
