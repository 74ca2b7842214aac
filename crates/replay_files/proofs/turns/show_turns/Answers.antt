use borrow.Author.Rules.{rules}
use Rattle.replaying.proofs.Alls.{alls, all-less}
use Rattle.replay_files.proofs.turns.show_turns.Goals as goal

pub loop-marks-init : goal.loop-marks-init
loop-marks-init c = search (rules, alls)

pub play_turn-next-requires : goal.play_turn-next-requires
play_turn-next-requires c = search (rules, alls)

pub loop-marks-smaller : goal.loop-marks-smaller
loop-marks-smaller c = all-less _ _ _ _ _ _ c.loop-marks.invariant.0 (search rules) _ _ c.play_turn-next.ensures

pub loop-marks-preserved : goal.loop-marks-preserved
loop-marks-preserved c = search (rules, alls)

pub returns : goal.returns
returns c = search (rules, alls)
