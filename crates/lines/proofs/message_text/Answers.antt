use Rattle.lines.proofs.Shorts.{message-line}
use borrow.Author.Rules.{rules}
use Rattle.lines.proofs.message_text.Goals as goal

pub returns : goal.returns
returns c = message-line _ _ _ (search rules) _ _ _ c.line_at.ensures
