use Rattle.viewing.proofs.Windows.{count_small, count-given}
use Rattle.viewing.proofs.entry_count.Goals as goal

pub returns : goal.returns
returns c =
    (count-given _ c.in_ok-accepted.ensures.0 _ c.count_entries.ensures, count_small _ c.in_ok-accepted.ensures.0 _ c.count_entries.ensures)
