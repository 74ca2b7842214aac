use borrow.Author.Rules.{rules}
use Rattle.text.proofs.Pieces.{digits}
use Rattle.text.proofs.hex_all.Goals as goal

pub loop-x-preserved : goal.loop-x-preserved
loop-x-preserved c = (search rules, search digits)

pub returns : goal.returns
returns c = search digits
