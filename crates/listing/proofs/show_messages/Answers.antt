use Rattle.std.proofs.Common.{rules, refl}
use Rattle.messages.proofs.Steps.{some_left, none_left}
use Rattle.windows.proofs.Stepping.{steps-going-on}
use Rattle.listing.proofs.Turns.{walks}
use Rattle.listing.proofs.show_messages.Goals as goal

pub loop-place-init : goal.loop-place-init
loop-place-init c = (tt, tt, refl, search rules, search (rules, walks))

pub show_message-progress-requires : goal.show_message-progress-requires
show_message-progress-requires c = record { fit = search (walks, some_left, c.in-Some.ensures.steps); going = search rules }

pub loop-place-preserved : goal.loop-place-preserved
loop-place-preserved c =
    (tt, tt, search rules, search steps-going-on, search (walks, some_left, c.in-Some.ensures.steps))

pub returns : goal.returns
returns c = search (walks, none_left, c.in-None.ensures.steps.0)
