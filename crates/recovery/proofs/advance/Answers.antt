use Rattle.recovery.proofs.Scanning.{turns}
use Rattle.windows.proofs.Stepping.{went}
use borrow.Author.Rules.{rules}
use Rattle.recovery.proofs.advance.Goals as goal

pub returns-in_default : goal.returns-in_default
returns-in_default c = search turns

pub slice_bounds-show_message-end : goal.slice_bounds-show_message-end
slice_bounds-show_message-end c = search (rules, turns)

pub show_message-progress-requires : goal.show_message-progress-requires
show_message-progress-requires c = record { fit = search turns; going = went _ _ _ _ _ c.show_stretch-before.ensures (search rules) }

pub returns : goal.returns
returns c = search turns
