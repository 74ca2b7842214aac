use Rattle.entries.proofs.Bounds.{elements_lie}
use Rattle.entries.proofs.Pieces.{elements, element-few}
use borrow.Author.Rules.{rules}
use Rattle.entries.proofs.lookup.element_entry.Goals as goal

pub array_vector-array-requires : goal.array_vector-array-requires
array_vector-array-requires c = search elements_lie

pub overflow_mul-at : goal.overflow_mul-at
overflow_mul-at c = record { fits = search elements_lie }

pub overflow_add-at : goal.overflow_add-at
overflow_add-at c = record { fits = search elements_lie }

pub field_entry-requires : goal.field_entry-requires
field_entry-requires c = (search elements_lie, search elements_lie, search rules)

pub returns-then-k-count : goal.returns-then-k-count
returns-then-k-count c = search elements

pub overflow_cast-element : goal.overflow_cast-element
overflow_cast-element c = record { fits = search (elements_lie, element-few) }

pub overflow_mul-at-2 : goal.overflow_mul-at-2
overflow_mul-at-2 c = record { fits = search (elements_lie, element-few) }

pub overflow_add-at-2 : goal.overflow_add-at-2
overflow_add-at-2 c = record { fits = search (elements_lie, element-few) }

pub overflow_add-at-3 : goal.overflow_add-at-3
overflow_add-at-3 c = record { fits = search (elements_lie, element-few) }

pub field_entry-requires-2 : goal.field_entry-requires-2
field_entry-requires-2 c = (search elements_lie, search (elements_lie, element-few), search rules)

pub returns : goal.returns
returns c = search elements
