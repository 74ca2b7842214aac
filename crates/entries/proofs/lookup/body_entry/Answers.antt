use Rattle.entries.proofs.Pieces.{bodies}
use borrow.Author.Rules.{rules}
use Rattle.entries.proofs.lookup.body_entry.Goals as goal

pub returns-then-k-count : goal.returns-then-k-count
returns-then-k-count c = search bodies

pub list_entry-requires : goal.list_entry-requires
list_entry-requires c = (search rules, search bodies)

pub returns : goal.returns
returns c = search bodies
