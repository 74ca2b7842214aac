use mathlib.Core.Path.{◌≡◌}
use lib.ListN.{length, take}
use Rattle.text.specs.Text.{text, written, glyphs}
use Rattle.text.proofs.glyphs.Given as goal

abbrev pub invariant-loop-k : goal.invariant-loop-k
invariant-loop-k l =
    (length l.d ≡ length l.initial.d)
    × (text l.d l.next ≡ written (glyphs l.id (take l.k-index l.order)) (text l.initial.d l.at))
