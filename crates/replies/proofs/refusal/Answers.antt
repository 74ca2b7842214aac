use mir.Syntax.{w64}
use mir.Facts.{to_z-of_z}
use Rattle.replies.proofs.Answers.{negated, negated_fits}
use borrow.Author.Rules.{rules}
use Rattle.replies.proofs.refusal.Goals as goal

pub overflow_sub-result : goal.overflow_sub-result
overflow_sub-result c = rw (negated c.args.n (search rules)) (negated_fits c.args.n (search rules))

pub returns : goal.returns
returns c = rw (negated c.args.n (search rules)) (to_z-of_z {w = w64} (negated_fits c.args.n (search rules)))
