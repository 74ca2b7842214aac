use Rattle.schemes.proofs.Digits.{digits}
use borrow.Author.Rules.{rules}
use Rattle.schemes.proofs.set.within.Goals as goal

pub returns-then-n-ge16 : goal.returns-then-n-ge16
returns-then-n-ge16 c = search (rules, digits)

pub returns-else-n-ge16 : goal.returns-else-n-ge16
returns-else-n-ge16 c = search digits
