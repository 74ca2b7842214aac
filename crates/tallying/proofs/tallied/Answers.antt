use Rattle.tallying.proofs.Steps.{counteds}
use Rattle.tallying.proofs.tallied.Goals as goal

pub returns-then-not-in_limits : goal.returns-then-not-in_limits
returns-then-not-in_limits c = search counteds

pub with_file-counted-requires : goal.with_file-counted-requires
with_file-counted-requires c = search counteds

pub with_answer-requires : goal.with_answer-requires
with_answer-requires c = search counteds

pub with_answer-requires-in-Err : goal.with_answer-requires-in-Err
with_answer-requires-in-Err c = search counteds

pub returns-in-Ok : goal.returns-in-Ok
returns-in-Ok c = search counteds

pub returns-in-Err : goal.returns-in-Err
returns-in-Err c = search counteds
