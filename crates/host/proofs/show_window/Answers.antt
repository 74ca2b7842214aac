use Rattle.std.proofs.Common.{rules}
use Rattle.host.proofs.Windows.{windows}
use Rattle.host.proofs.show_window.Goals as goal

pub returns-then-message_lines-from : goal.returns-then-message_lines-from
returns-then-message_lines-from c = (search (windows, c.in_ok-accepted.ensures.0), tt)

pub returns-then-shown-ne0 : goal.returns-then-shown-ne0
returns-then-shown-ne0 c = (search (windows, c.in_ok-accepted.ensures.0), search windows)

pub returns-then-from-end : goal.returns-then-from-end
returns-then-from-end c = (search (windows, c.in_ok-accepted.ensures.0), tt)

pub returns : goal.returns
returns c = (search (windows, c.in_ok-accepted.ensures.0), search rules)
