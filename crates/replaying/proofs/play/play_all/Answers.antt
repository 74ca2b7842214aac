use borrow.Author.Rules.{rules}
use Rattle.replaying.proofs.Alls.{alls, all-less}
use Rattle.replaying.proofs.play.play_all.Goals as goal

pub loop-marks-init : goal.loop-marks-init
loop-marks-init c = search (rules, alls)

pub play_turn-replay-requires : goal.play_turn-replay-requires
play_turn-replay-requires c = search (rules, alls)

pub loop-marks-smaller : goal.loop-marks-smaller
loop-marks-smaller c = all-less _ _ _ _ _ _ c.loop-marks.invariant.0 (search rules) _ _ c.play_turn-replay.ensures

pub loop-marks-preserved : goal.loop-marks-preserved
loop-marks-preserved c = search (rules, alls)

pub returns : goal.returns
returns c = search (rules, alls)
