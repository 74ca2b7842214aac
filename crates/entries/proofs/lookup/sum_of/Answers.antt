use Rattle.entries.proofs.Pieces.{counted-kind, sums}
use borrow.Author.Rules.{rules}
use Rattle.entries.proofs.lookup.sum_of.Goals as goal

pub ids_vector-ids-requires : goal.ids_vector-ids-requires
ids_vector-ids-requires c = search (rules, counted-kind, sums)

pub array_vector-array-requires : goal.array_vector-array-requires
array_vector-array-requires c = search (rules, counted-kind, sums)

pub overflow_add-result : goal.overflow_add-result
overflow_add-result c = record { fits = search (rules, counted-kind, sums) }

pub overflow_add-result-2 : goal.overflow_add-result-2
overflow_add-result-2 c = record { fits = search (rules, counted-kind, sums) }

pub overflow_add-result-3 : goal.overflow_add-result-3
overflow_add-result-3 c = record { fits = search (rules, counted-kind, sums) }

pub overflow_add-result-4 : goal.overflow_add-result-4
overflow_add-result-4 c = record { fits = search (rules, counted-kind, sums) }

pub returns : goal.returns
returns c = search (rules, counted-kind, sums)
