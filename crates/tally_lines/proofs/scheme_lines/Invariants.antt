use Rattle.std.proofs.Common.{◌≡◌, ◌-◌, ◌*◌, drop, take}
use Rattle.text.specs.Text.{text, written}
use Rattle.message.specs.Show.{ids_at}
use Rattle.tally_lines.specs.Lines.{scheme_lines}
use Rattle.tally_lines.proofs.scheme_lines.Given as goal

abbrev pub invariant-loop-k : goal.invariant-loop-k
invariant-loop-k l =
    written (scheme_lines (ids_at l.count l.ids) (take l.count l.counts)) (text l.initial.d l.at)
    ≡ written (scheme_lines (ids_at (l.count - l.k) (drop (l.k * 16) l.ids)) (take (l.count - l.k) (drop l.k l.counts))) (text l.d l.next)
