use Rattle.std.proofs.Common.{length, ◌-◌, ◌≤◌, ◌≡◌}
use Rattle.console.proofs.walk.Given as goal

abbrev pub invariant-loop-text : goal.invariant-loop-text
invariant-loop-text g l = goal.S-IsAlwaysCallable g l.show × (l.first ≤ l.end) × (l.first ≤ length (g.W.Windowed.lines l.windowed)) × (length l.text ≡ 65536)

abbrev pub decreases-loop-text : goal.decreases-loop-text
decreases-loop-text g l = l.end - l.first
