use Rattle.std.proofs.Common.{◌≡◌, ◌-◌, ◌*◌, ◌/◌, length}
use Rattle.message.specs.Layout.{elements_of}
use Rattle.message.specs.Check.{none_critical}
use Rattle.message.proofs.Elements.{none_from}
use Rattle.message.proofs.element.none_critical.Given as goal

abbrev pub invariant-loop-i : goal.invariant-loop-i
invariant-loop-i l = (l.ordinary ≡ l.i) × (none_critical (elements_of l.array) ≡ none_from (length l.array / 12 - l.i) l.array (l.i * 12))
