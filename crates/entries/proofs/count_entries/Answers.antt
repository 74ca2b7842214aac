use Rattle.std.proofs.Common.{rules}
use Rattle.messages.proofs.Steps.{some_left, left_behind, none_left}
use Rattle.entries.proofs.Walked.{counting}
use Rattle.entries.proofs.count_entries.Goals as goal

pub loop-m-init : goal.loop-m-init
loop-m-init c = (tt, tt, search (rules, counting))

pub entry_count-count-requires : goal.entry_count-count-requires
entry_count-count-requires c = search (counting, some_left, c.in-Some.ensures.steps)

pub overflow_add-count : goal.overflow_add-count
overflow_add-count c = record { fits = search (counting, some_left, c.in-Some.ensures.steps) }

pub loop-m-preserved : goal.loop-m-preserved
loop-m-preserved c = (tt, tt, rw (left_behind c.in-Some.ensures.steps) (search (counting, some_left, c.in-Some.ensures.steps)))

pub returns : goal.returns
returns c = search (counting, none_left, c.in-None.ensures.steps.0)
