use Rattle.std.proofs.Common.{rules, refl, ◌≡◌}
use Rattle.messages.proofs.Steps.{some_left, left_behind, none_left}
use Rattle.tallying.proofs.Steps.{walks}
use Rattle.tallying.proofs.with_messages.Goals as goal

pub loop-m-init : goal.loop-m-init
loop-m-init c =
    let e : c.into_iter-m-iterator.result.rest.now ≡ c.args.file.now = search rules in (tt, tt, refl, rw e (search walks))

pub with_message-counted-requires : goal.with_message-counted-requires
with_message-counted-requires c = search (walks, some_left, c.in-Some.ensures.steps)

pub loop-m-preserved : goal.loop-m-preserved
loop-m-preserved c =
    (tt, tt, search rules, rw (left_behind c.in-Some.ensures.steps) (search (walks, some_left, c.in-Some.ensures.steps)))

pub returns : goal.returns
returns c = search (walks, none_left, c.in-None.ensures.steps.0)
