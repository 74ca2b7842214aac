use Rattle.tallying.proofs.Steps.{answer-is}
use Rattle.tallying.proofs.with_answer.Goals as goal

pub returns : goal.returns
returns c = search answer-is
