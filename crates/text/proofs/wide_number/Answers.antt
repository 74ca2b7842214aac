use Rattle.text.proofs.Digits.{numbers}
use Rattle.text.proofs.wide_number.Goals as goal

pub returns : goal.returns
returns c = search numbers
