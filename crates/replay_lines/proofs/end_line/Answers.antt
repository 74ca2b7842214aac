use Rattle.replay_lines.proofs.Chains.{end-unopened, end-finished, end_refused}
use Rattle.replay_lines.proofs.end_line.Goals as goal

pub returns-in_default : goal.returns-in_default
returns-in_default c = rw c.in_default.is (end-finished _)

pub returns-in_default-result : goal.returns-in_default-result
returns-in_default-result c = rw (c.in-Some.is, c.in_default-result.is) (end-finished _)

pub returns-in-Unopened : goal.returns-in-Unopened
returns-in-Unopened c = rw (c.in-Some.is, c.in-Err.is, c.in-Unopened.is) (end-unopened _ _ c.append.ensures)

pub returns-in-Refused : goal.returns-in-Refused
returns-in-Refused c = rw (c.in-Some.is, c.in-Err.is, c.in-Refused.is) (end_refused _ _ _ _ _ c.refusal.ensures)
