use Rattle.std.proofs.Common.{◌≡◌, length, drop}
use Rattle.text.specs.Text.{text, written}
use Rattle.der.specs.Holder.{octets_at}
use Rattle.envelope.specs.Answers.{mechanisms_in}
use Rattle.envelope_lines.specs.Lines.{mechanism_lines}
use Rattle.envelope_lines.proofs.mechanism_lines.Given as goal

abbrev pub invariant-loop-k : goal.invariant-loop-k
invariant-loop-k l = (length l.d ≡ length l.initial.d)
    × (written (mechanism_lines 0 (mechanisms_in (octets_at l.s l.list))) (text l.initial.d l.at)
    ≡ written (mechanism_lines l.k (drop l.k (mechanisms_in (octets_at l.s l.list)))) (text l.d l.next))
