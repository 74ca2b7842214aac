use Rattle.tallying.proofs.Steps.{counteds}
use Rattle.tallying.proofs.count_missing.Goals as goal

pub returns-then-not-in_limits : goal.returns-then-not-in_limits
returns-then-not-in_limits c = search counteds

pub with_answer-requires : goal.with_answer-requires
with_answer-requires c = search counteds

pub returns : goal.returns
returns c = search counteds
