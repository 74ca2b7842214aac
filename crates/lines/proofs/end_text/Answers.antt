use Rattle.lines.proofs.Shorts.{end_line_lem}
use borrow.Author.Rules.{rules}
use Rattle.lines.proofs.end_text.Goals as goal

pub returns : goal.returns
returns c = end_line_lem _ _ _ (search rules) _ _ c.end.ensures
