use Rattle.message.proofs.Walks.{firsts}
use Rattle.message.proofs.walk.message_length.Goals as goal

pub returns : goal.returns
returns c = search firsts
