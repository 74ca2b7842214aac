use Rattle.text.proofs.Digits.{numbers}
use Rattle.text.proofs.field.Goals as goal

pub returns : goal.returns
returns c = search numbers
