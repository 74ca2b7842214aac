use borrow.Author.Tests.{eq-eqb}
use Rattle.sending.proofs.Schemes.{first-empty, first-same}
use Rattle.sending.proofs.first_of_reply.Goals as goal

pub returns-then-left-ne0 : goal.returns-then-left-ne0
returns-then-left-ne0 c = first-same _ c.requires _ c.choose_own-left.ensures c.if-left-ne0.true

pub returns-else-left-ne0 : goal.returns-else-left-ne0
returns-else-left-ne0 c = rw (eq-eqb _ _ c.if-left-ne0.false) (first-empty _ c.requires _ c.choose_own-left.ensures c.if-left-ne0.false)
