use Rattle.viewing.proofs.Windows.{windows}
use Rattle.viewing.proofs.write_entries.Goals as goal

pub returns-then-count_entries-first : goal.returns-then-count_entries-first
returns-then-count_entries-first c = (search (windows, c.in_ok-accepted.ensures.0), tt)

pub returns-then-buffer-lt-SIZE : goal.returns-then-buffer-lt-SIZE
returns-then-buffer-lt-SIZE c = (search (windows, c.in_ok-accepted.ensures.0), tt)

pub returns : goal.returns
returns c = (search (windows, c.in_ok-accepted.ensures.0), search (windows, c.in_ok-accepted.ensures.0))
