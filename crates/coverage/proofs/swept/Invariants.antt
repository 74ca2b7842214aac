use Rattle.std.proofs.Common.{◌≡◌, ◌+◌, ◌-◌, ◌≤◌, length}
use Rattle.coverage.specs.Sweep.{sweep}
use Rattle.coverage.proofs.swept.Given as goal

abbrev pub invariant-loop-at : goal.invariant-loop-at
invariant-loop-at l = record {
  few : l.count ≤ l.at;
  counted : sweep l.map l.start (length l.map) 0 ≡ l.count + sweep l.map l.far (length l.map - l.at) l.at;
}
