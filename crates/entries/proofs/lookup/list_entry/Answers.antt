use Rattle.entries.proofs.Bounds.{ids-lie}
use Rattle.entries.proofs.Pieces.{lists}
use borrow.Author.Rules.{rules}
use Rattle.entries.proofs.lookup.list_entry.Goals as goal

pub ids_vector-ids-requires : goal.ids_vector-ids-requires
ids_vector-ids-requires c = search ids-lie

pub overflow_mul-at : goal.overflow_mul-at
overflow_mul-at c = record { fits = search ids-lie }

pub overflow_add-at : goal.overflow_add-at
overflow_add-at c = record { fits = search ids-lie }

pub field_entry-requires : goal.field_entry-requires
field_entry-requires c = (search ids-lie, search ids-lie, search rules)

pub returns-then-k-count : goal.returns-then-k-count
returns-then-k-count c = search lists

pub element_entry-requires : goal.element_entry-requires
element_entry-requires c = (search rules, search lists)

pub returns : goal.returns
returns c = search lists
