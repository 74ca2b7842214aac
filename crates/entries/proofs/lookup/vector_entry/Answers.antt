use Rattle.entries.proofs.Pieces.{vectors-are}
use Rattle.entries.proofs.lookup.vector_entry.Goals as goal

pub overflow_cast-result : goal.overflow_cast-result
overflow_cast-result c = record { fits = search vectors-are }

pub overflow_cast-result-2 : goal.overflow_cast-result-2
overflow_cast-result-2 c = record { fits = search vectors-are }

pub overflow_cast-result-3 : goal.overflow_cast-result-3
overflow_cast-result-3 c = record { fits = search vectors-are }

pub returns : goal.returns
returns c = search vectors-are
