use Rattle.std.proofs.Common.{rules}
use Rattle.messages.proofs.Steps.{some_left, left_behind, none_left}
use Rattle.table.proofs.Entries.{sizes}
use Rattle.table.proofs.table_size.Goals as goal

pub loop-m-init : goal.loop-m-init
loop-m-init c = (tt, tt, search (rules, sizes))

pub overflow_mul-size : goal.overflow_mul-size
overflow_mul-size c = record { fits = search (sizes, some_left, c.in-Some.ensures.steps) }

pub overflow_add-size : goal.overflow_add-size
overflow_add-size c = record { fits = search (sizes, some_left, c.in-Some.ensures.steps) }

pub overflow_add-size-in-loop-m : goal.overflow_add-size-in-loop-m
overflow_add-size-in-loop-m c = record { fits = search (sizes, some_left, c.in-Some.ensures.steps) }

pub loop-m-preserved : goal.loop-m-preserved
loop-m-preserved c = (tt, tt, rw (left_behind c.in-Some.ensures.steps) (search (sizes, some_left, c.in-Some.ensures.steps)))

pub returns : goal.returns
returns c = search (sizes, none_left, c.in-None.ensures.steps.0)
