use Rattle.std.proofs.Common.{◌≡◌, drop}
use Rattle.text.specs.Text.{text, written}
use Rattle.tally_lines.specs.Lines.{answer_lines}
use Rattle.tally_lines.proofs.refused_lines.Given as goal

abbrev pub invariant-loop-k : goal.invariant-loop-k
invariant-loop-k l = written (answer_lines 0 l.answers) (text l.initial.d l.at) ≡ written (answer_lines l.k (drop l.k l.answers)) (text l.d l.next)
