use Rattle.std.proofs.Common.{rules}
use Rattle.der.proofs.Sizes.{shortening}
use Rattle.der.proofs.shortest.Goals as goal

pub returns-then-n-lt128 : goal.returns-then-n-lt128
returns-then-n-lt128 c = search (rules, shortening)

pub returns-then-n-lt256 : goal.returns-then-n-lt256
returns-then-n-lt256 c = search (rules, shortening)

pub returns : goal.returns
returns c = search (rules, shortening)
