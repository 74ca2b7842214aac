use Rattle.std.proofs.Common.{rules, of_calls}
use Rattle.text_lines.proofs.Calls.{one-more, done}
use Rattle.text_lines.proofs.each_line.Goals as goal

pub loop-line-init : goal.loop-line-init
loop-line-init g c = (search rules, λ last h. h)

pub loop-line-preserved : goal.loop-line-preserved
loop-line-preserved g c = (search of_calls, one-more _ _ _ _ _ _ _ _ c.loop-line.invariant.1 (c.in-Some.ensures.0) c.visit.ensures)

pub returns : goal.returns
returns g c = done _ _ _ _ _ c.loop-line.invariant.1 c.in_default.ensures
