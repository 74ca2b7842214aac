use Rattle.replies.proofs.Vectors.{counts}
use Rattle.replies.proofs.count_vectors.Goals as goal

pub returns : goal.returns
returns c = (search (counts, c.in_ok-m.ensures.0, c.in_ok-m.ensures.1), search (counts, c.in_ok-m.ensures.0, c.in_ok-m.ensures.1))
