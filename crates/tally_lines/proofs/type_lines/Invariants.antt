use Rattle.std.proofs.Common.{◌≡◌, drop}
use Rattle.text.specs.Text.{text, written}
use Rattle.tally_lines.specs.Lines.{type_lines}
use Rattle.tally_lines.proofs.type_lines.Given as goal

abbrev pub invariant-loop-k : goal.invariant-loop-k
invariant-loop-k l = written (type_lines 0 l.types) (text l.initial.d l.at) ≡ written (type_lines l.k (drop l.k l.types)) (text l.d l.next)
