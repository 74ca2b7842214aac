use Rattle.replaying.proofs.Alls.{whole-short-i, whole-short-a, start-goes, start-ended}
use Rattle.replaying.proofs.play.start.Goals as goal

pub first_conversation-conversation-requires : goal.first_conversation-conversation-requires
first_conversation-conversation-requires c = (
  rw c.octets_of.ensures (whole-short-i _ _ _ _ _ c.in-Ok.ensures),
  rw c.octets_of-in-Ok.ensures (whole-short-a _ _ _ _ _ c.in-Ok.ensures),
)

pub returns-in-Ok : goal.returns-in-Ok
returns-in-Ok c =
    let conversation = rw (c.octets_of.ensures, c.octets_of-in-Ok.ensures) at c.first_conversation-conversation.ensures in start-goes _ _ _ _ _
    c.in-Ok.ensures _ conversation _ c.begin_with.ensures

pub returns-in-Err : goal.returns-in-Err
returns-in-Err c = start-ended _ _ _ _ _ _ c.in-Err.ensures _ c.begin_with-in-Err.ensures
