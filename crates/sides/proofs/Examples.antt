-- Replays, computed: the definitions are not empty.
-- Assumes nothing.
use mathlib.Core.Path.{refl}
use Rattle.schemes.specs.Lists.{list_ok}
use Rattle.schemes.specs.Answers.{with_bit}
use Rattle.conversation.specs.Writing.{opening}
use Rattle.conversation.specs.Logs.{messages_in}
use Rattle.conversation.proofs.Computes.{computing}
use Rattle.sides.specs.Merging.{cut_from, run_from, turns_from, together}
use Rattle.sides.specs.Turning.{begun, owed, heard_turn, said, said_all}
use Rattle.sides.specs.Replay.{cut_ending, before, choice_of, play_from, replay_of}
use Rattle.sides.specs.Worked.{WholeReplayed, Endings}

pub whole-replayed : WholeReplayed
unfolding computing messages_in with_bit list_ok opening cut_from run_from turns_from together begun owed heard_turn said said_all cut_ending before choice_of
    play_from replay_of
whole-replayed = refl

pub endings : Endings
unfolding computing messages_in with_bit list_ok opening cut_from run_from turns_from together begun owed heard_turn said said_all cut_ending before choice_of
    play_from replay_of
endings = (refl, (refl, (refl, (refl, (refl, (refl, (refl, (refl, (refl, (refl, (refl, (refl, (refl, tt)))))))))))))
