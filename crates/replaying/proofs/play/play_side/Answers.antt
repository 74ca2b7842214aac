use borrow.Author.Rules.{rules}
use Rattle.replaying.proofs.Plays.{ready-few, side-refused, side-numbers, side-room, side-accepted}
use Rattle.replaying.proofs.play.play_side.Goals as goal

pub returns-then-answer-ne0 : goal.returns-then-answer-ne0
returns-then-answer-ne0 c = side-refused _ c.args.acceptor _ _ _ _
    c.requires _
    c.role_of-writer.ensures _
    c.role_of-reader.ensures _
    c.owes.ensures _ _ c.hear-answer.ensures
    (search rules) _ c.end_with.ensures

pub speak-spoken-requires : goal.speak-spoken-requires
speak-spoken-requires c = (
  ready-few _ _ _ c.requires
      c.args.acceptor _
      c.role_of-writer.ensures,
  side-numbers _ c.args.acceptor _ _ _ _
      c.requires _
      c.role_of-writer.ensures _
      c.role_of-reader.ensures _
      c.owes.ensures _ _ c.hear-answer.ensures
      (search rules),
  side-room _ c.args.acceptor _ _ _ _
      c.requires _
      c.role_of-writer.ensures _
      c.role_of-reader.ensures _
      c.owes.ensures _ _ c.hear-answer.ensures
      (search rules),
)

pub returns : goal.returns
returns c = side-accepted _
    c.args.acceptor _ _ _ _
    c.requires _
    c.role_of-writer.ensures _
    c.role_of-reader.ensures _
    c.owes.ensures _ _
    c.hear-answer.ensures (search rules) _ c.speak-spoken.ensures _ c.go_on.ensures
