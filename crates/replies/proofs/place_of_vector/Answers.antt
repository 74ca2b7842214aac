use Rattle.replies.proofs.Messages.{messages}
use Rattle.replies.proofs.Vectors.{places}
use Rattle.replies.proofs.place_of_vector.Goals as goal

pub returns-then-vector_count-vector : goal.returns-then-vector_count-vector
returns-then-vector_count-vector c = (search (places, c.in_ok-m.ensures.0, c.in_ok-m.ensures.1), tt)

pub vector_place-place-requires : goal.vector_place-place-requires
vector_place-place-requires c = search messages

pub returns : goal.returns
returns c = (search (places, c.in_ok-m.ensures.0, c.in_ok-m.ensures.1), search (places, c.in_ok-m.ensures.0, c.in_ok-m.ensures.1))
