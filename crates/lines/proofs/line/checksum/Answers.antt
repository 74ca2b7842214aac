use Rattle.lines.proofs.Chained.{checksum-text}
use borrow.Author.Rules.{rules}
use Rattle.lines.proofs.line.checksum.Goals as goal

pub returns : goal.returns
returns c = search (rules, checksum-text)
