use Rattle.entries.proofs.Pieces.{wholes}
use borrow.Author.Rules.{rules}
use Rattle.entries.proofs.lookup.entry_of.Goals as goal

pub returns-then-k-eq0 : goal.returns-then-k-eq0
returns-then-k-eq0 c = search (rules, wholes)

pub header_entry-requires : goal.header_entry-requires
header_entry-requires c = (search (rules, wholes), search (rules, wholes))

pub returns-then-k-count : goal.returns-then-k-count
returns-then-k-count c = search (rules, wholes)

pub body_entry-requires : goal.body_entry-requires
body_entry-requires c = (search (rules, wholes), search (rules, wholes), search (rules, wholes))

pub returns : goal.returns
returns c = search (rules, wholes)
