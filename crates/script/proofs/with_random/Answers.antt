use borrow.Author.Rules.{rules}
use Rattle.script.specs.Grammar.{from_random}
use Rattle.script.proofs.Items.{randoms}
use Rattle.script.proofs.with_random.Goals as goal

pub returns-in_err-n : goal.returns-in_err-n
returns-in_err-n c = rw c.from_residual.ensures (search (rules, randoms))

pub returns : goal.returns
unfolding from_random
returns c = search (rules, randoms)
