use Rattle.std.proofs.Common.{◌≡◌, ◌-◌, ◌*◌, ◌/◌, length}
use Rattle.message.specs.Layout.{values_of, elements_of}
use Rattle.message.specs.Check.{all_keep_rule}
use Rattle.message.proofs.Elements.{values_fit}
use Rattle.message.proofs.element.values_keep_rule.Given as goal

abbrev pub invariant-loop-i : goal.invariant-loop-i
invariant-loop-i l =
    all_keep_rule l.header l.len (values_of (elements_of l.array)) ≡ values_fit l.header l.len (length l.array / 12 - l.i) l.array (l.i * 12)
