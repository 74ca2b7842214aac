use Rattle.vector.proofs.Rule.{vector_rules}
use Rattle.table.proofs.vector_length.Goals as goal

pub overflow_mul-result : goal.overflow_mul-result
overflow_mul-result c = search vector_rules
