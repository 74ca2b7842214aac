use Rattle.lines.proofs.Chained.{error-text}
use borrow.Author.Rules.{rules}
use Rattle.lines.proofs.line.error.Goals as goal

pub returns : goal.returns
returns c = search (rules, error-text)
