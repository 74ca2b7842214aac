use borrow.Author.Rules.{rules}
use Rattle.turning.proofs.Saying.{say-is}
use Rattle.turning.proofs.spoke.say.Goals as goal

pub returns : goal.returns
returns c = search (rules, say-is)
