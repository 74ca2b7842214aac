use Rattle.host.proofs.Counting.{lines-room, lines-small, lines-given}
use Rattle.host.proofs.count_lines.Goals as goal

pub overflow_add-result : goal.overflow_add-result
overflow_add-result c = record { fits = lines-room _ c.in_ok-accepted.ensures.0 _ c.message_lines.ensures }

pub returns : goal.returns
returns c = (
  lines-given _ c.in_ok-accepted.ensures.0 _ c.message_lines.ensures,
  lines-small _ c.in_ok-accepted.ensures.0 _ c.message_lines.ensures,
)
