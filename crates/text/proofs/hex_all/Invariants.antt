use mathlib.Core.Path.{◌≡◌}
use lib.ListN.{length, drop}
use Rattle.text.specs.Text.{digits_of, text, written}
use Rattle.text.proofs.hex_all.Given as goal

abbrev pub invariant-loop-x : goal.invariant-loop-x
invariant-loop-x l =
    (length l.d ≡ length l.initial.d)
    × (written (digits_of l.v) (text l.initial.d l.at) ≡ written (digits_of (drop l.x-index l.v)) (text l.d l.next))
