use borrow.Author.Rules.{rules}
use Rattle.tallying.proofs.Steps.{start-in, start-long}
use Rattle.tallying.proofs.with_file.Goals as goal

pub with_messages-requires : goal.with_messages-requires
with_messages-requires c = search (rules, start-in)

pub with_messages-requires-2 : goal.with_messages-requires-2
with_messages-requires-2 c = search (rules, start-long)
