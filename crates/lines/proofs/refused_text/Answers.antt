use Rattle.lines.proofs.Shorts.{refused-line}
use borrow.Author.Rules.{rules}
use Rattle.lines.proofs.refused_text.Goals as goal

pub returns : goal.returns
returns c = refused-line _ _ _ (search rules) _ _ c.refused.ensures
