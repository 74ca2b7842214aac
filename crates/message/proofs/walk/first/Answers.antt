use Rattle.message.proofs.Walks.{firsts}
use Rattle.message.proofs.walk.first.Goals as goal

pub returns-then-rest-lt-COMMON_HEADER : goal.returns-then-rest-lt-COMMON_HEADER
returns-then-rest-lt-COMMON_HEADER c = search firsts

pub returns-then-rest-length : goal.returns-then-rest-length
returns-then-rest-length c = search firsts

pub returns : goal.returns
returns c = search firsts
