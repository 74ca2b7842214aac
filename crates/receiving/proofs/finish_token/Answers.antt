use Rattle.receiving.proofs.Calls.{finishes}
use Rattle.receiving.proofs.finish_token.Goals as goal

pub returns-in-Err : goal.returns-in-Err
returns-in-Err c = search finishes

pub returns-then-not-has_room : goal.returns-then-not-has_room
returns-then-not-has_room c = search finishes

pub accept-requires : goal.accept-requires
accept-requires c = (search finishes, search finishes)

pub returns-else-not-has_room : goal.returns-else-not-has_room
returns-else-not-has_room c = search finishes
