use Rattle.entries.proofs.Bounds.{held-type}
use Rattle.entries.proofs.Pieces.{counted}
use borrow.Author.Rules.{rules}
use Rattle.entries.proofs.lookup.counts_of.Goals as goal

pub le_u32-requires : goal.le_u32-requires
le_u32-requires c = search held-type

pub returns : goal.returns
returns c = search (rules, counted)
