use Rattle.std.proofs.Common.{◌≡◌, length}
use Rattle.token.specs.Token.{token_of}
use Rattle.token.specs.Walk.{messages_of}
use Rattle.windows.specs.Windows.{texts}
use Rattle.windows.specs.Steps.{within, steps, Going}
use Rattle.listing.specs.Listing.{all_lines}
use Rattle.listing.proofs.Turns.{Going-on}
use Rattle.listing.proofs.show_messages.Given as goal

abbrev pub invariant-loop-place : goal.invariant-loop-place
invariant-loop-place l =
    (goal.iterator-loop-place).can_next l.place-iterator × (goal.iterator-loop-place).is_finite l.place-iterator
    × (length l.d ≡ length l.initial.d) × (Going l.progress (length l.initial.d))
    × Going-on (steps (texts (all_lines (messages_of (token_of l.token)))) (within l.initial.progress l.initial.d)) l.place-iterator.rest.now
    l.place-iterator.place.0 (within l.progress l.d)
