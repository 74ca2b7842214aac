use borrow.Author.Rules.{rules}
use Rattle.replaying.proofs.Alls.{wholes}
use Rattle.replay_files.proofs.turns.show_replay.Goals as goal

pub show_turns-played-requires : goal.show_turns-played-requires
show_turns-played-requires c = search (rules, wholes)
