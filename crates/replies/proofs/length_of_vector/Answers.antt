use Rattle.replies.proofs.Vectors.{lengths}
use Rattle.replies.proofs.length_of_vector.Goals as goal

pub returns-then-vector_count-vector : goal.returns-then-vector_count-vector
returns-then-vector_count-vector c = (search (lengths, c.in_ok-m.ensures.0, c.in_ok-m.ensures.1), tt)

pub returns : goal.returns
returns c = (search (lengths, c.in_ok-m.ensures.0, c.in_ok-m.ensures.1), search (lengths, c.in_ok-m.ensures.0, c.in_ok-m.ensures.1))
