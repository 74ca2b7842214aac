use Rattle.lines.proofs.Chained.{extension-text}
use borrow.Author.Rules.{rules}
use Rattle.lines.proofs.line.extension.Goals as goal

pub returns : goal.returns
returns c = search (rules, extension-text)
