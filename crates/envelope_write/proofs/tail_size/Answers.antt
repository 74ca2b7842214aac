use Rattle.envelope_write.proofs.Sums.{tail-size}
use borrow.Author.Rules.{rules}
use Rattle.envelope_write.proofs.tail_size.Goals as goal

pub returns : goal.returns
returns c = search (rules, tail-size)
