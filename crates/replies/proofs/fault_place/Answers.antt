use Rattle.std.proofs.Common.{rules}
use Rattle.replies.proofs.Answers.{answers}
use Rattle.replies.proofs.fault_place.Goals as goal

pub returns-in-Ok : goal.returns-in-Ok
returns-in-Ok c = (search answers, search rules)

pub returns-in-Err : goal.returns-in-Err
returns-in-Err c = (search answers, search answers)
