use borrow.Author.Rules.{rules}
use Rattle.replaying.proofs.Nexts.{talks}
use Rattle.replaying.proofs.play.first_conversation.Goals as goal

pub returns-in_default : goal.returns-in_default
returns-in_default c = search (rules, talks)

pub id_at-requires : goal.id_at-requires
id_at-requires c = search (rules, talks)

pub returns-then-turn : goal.returns-then-turn
returns-then-turn c = search (rules, talks)

pub id_at-requires-2 : goal.id_at-requires-2
id_at-requires-2 c = search (rules, talks)

pub returns : goal.returns
returns c = search (rules, talks)
