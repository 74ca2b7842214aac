use Rattle.table.proofs.Spans.{spans}
use Rattle.table.proofs.vector_place.Goals as goal

pub returns-then-vector_length-eq0 : goal.returns-then-vector_length-eq0
returns-then-vector_length-eq0 c = search spans

pub returns : goal.returns
returns c = search spans
