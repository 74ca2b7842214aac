use Rattle.coverage.proofs.Marks.{counted-cut}
use Rattle.coverage.proofs.count_octets.Goals as goal

pub returns-in_default : goal.returns-in_default
returns-in_default c = counted-cut c.args.m.now (rw c.in_default.is at c.whole_kind.ensures)
