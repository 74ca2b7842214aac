use Rattle.text.proofs.Digits.{numbers}
use Rattle.text.proofs.number.Goals as goal

pub returns : goal.returns
returns c = search numbers
