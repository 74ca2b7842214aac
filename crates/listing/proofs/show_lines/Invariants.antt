use mathlib.Core.Path.{◌≡◌}
use lib.ListN.{length, drop}
use Rattle.lines.specs.Lines.{message_lines}
use Rattle.windows.specs.Windows.{texts}
use Rattle.windows.specs.Steps.{within, steps, Going}
use Rattle.listing.proofs.show_lines.Given as goal

abbrev pub invariant-loop-index : goal.invariant-loop-index
invariant-loop-index l = (length l.d ≡ length l.initial.d) × (Going l.progress (length l.initial.d))
    × (steps (drop l.first (texts (message_lines l.place.0 l.m))) (within l.initial.progress l.initial.d)
    ≡ steps (drop l.index (texts (message_lines l.place.0 l.m))) (within l.progress l.d))
