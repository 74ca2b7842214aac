use Rattle.envelope_write.proofs.Stores.{inits}
use borrow.Author.Rules.{rules}
use Rattle.envelope_write.proofs.size_init.Goals as goal

pub store_init-requires : goal.store_init-requires
store_init-requires c = search (rules, inits)
