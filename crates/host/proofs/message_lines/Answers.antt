use Rattle.std.proofs.Common.{rules}
use Rattle.messages.proofs.Steps.{some_left, left_behind, none_left}
use Rattle.host.proofs.Counting.{counting}
use Rattle.host.proofs.message_lines.Goals as goal

pub loop-m-init : goal.loop-m-init
loop-m-init c = (tt, tt, search (rules, counting))

pub count-lines-requires : goal.count-lines-requires
count-lines-requires c = search (counting, some_left, c.in-Some.ensures.steps)

pub overflow_add-lines : goal.overflow_add-lines
overflow_add-lines c = record { fits = search (counting, some_left, c.in-Some.ensures.steps) }

pub loop-m-preserved : goal.loop-m-preserved
loop-m-preserved c = (tt, tt, rw (left_behind c.in-Some.ensures.steps) (search (counting, some_left, c.in-Some.ensures.steps)))

pub returns : goal.returns
returns c = search (counting, none_left, c.in-None.ensures.steps.0)
