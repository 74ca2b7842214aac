use Rattle.std.proofs.Common.{length}
use Rattle.text_lines.proofs.Calls.{Left}
use Rattle.text_lines.proofs.each_line.Given as goal

abbrev pub invariant-loop-line : goal.invariant-loop-line
invariant-loop-line g l = goal.F-IsAlwaysCallable g l.visit × Left g.F.FnMut l.fn.text l.fn.visit l.visit l.rest

abbrev pub decreases-loop-line : goal.decreases-loop-line
decreases-loop-line g l = length l.rest
