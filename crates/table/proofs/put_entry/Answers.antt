use Rattle.table.proofs.Numbers.{held_place}
use Rattle.table.proofs.Entries.{entries}
use Rattle.table.proofs.put_entry.Goals as goal

pub overflow_cast-vector_count : goal.overflow_cast-vector_count
overflow_cast-vector_count c = record { fits = search entries }

pub put_fields-spans_at-requires : goal.put_fields-spans_at-requires
put_fields-spans_at-requires c = (search entries, search held_place, search entries)

pub returns : goal.returns
returns c = search entries
