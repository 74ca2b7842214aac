use Rattle.schemes.proofs.Digits.{digits}
use borrow.Author.Rules.{rules}
use Rattle.schemes.proofs.set.bit_of.Goals as goal

pub returns-then-k-lt16 : goal.returns-then-k-lt16
returns-then-k-lt16 c = search digits

pub returns-else-k-lt16 : goal.returns-else-k-lt16
returns-else-k-lt16 c = search (rules, digits)
