use Rattle.std.proofs.Common.{ℕ, ◌≡◌, ◌≤◌, ◌<◌, ◌-◌, length, get_or}
use Rattle.message.specs.Show.{ids_of}
use Rattle.offers.specs.Table.{ticked_from}
use Rattle.offers.proofs.tick.Given as goal

abbrev pub invariant-loop-k : goal.invariant-loop-k
invariant-loop-k l = record {
  size : length l.ticked ≡ 64;
  small : (j : ℕ) → l.k ≤ j → get_or l.ticked j 0 < 9223372036854775808;
  ticks : ticked_from l.ids (ids_of l.list) l.n 0 l.initial.ticked ≡ ticked_from l.ids (ids_of l.list) (l.n - l.k) l.k l.ticked;
}
