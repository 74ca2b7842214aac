use borrow.Author.Rules.{rules}
use mathlib.Core.Path.{sym}
use mathlib.Core.Bool.{true, false}
use lib.Seq.{length-take-le}
use Rattle.replaying.proofs.Goes.{turn-none, turn-within, turn-ready, turn-goes}
use Rattle.replaying.proofs.play.play_turn.Goals as goal

pub returns-in_default : goal.returns-in_default
returns-in_default c = turn-none _ _ _ c.requires.0 c.in_default.ensures _ _ c.requires.1

pub slice_bounds-play_side-end : goal.slice_bounds-play_side-end
slice_bounds-play_side-end c = sym (length-take-le _ _ (turn-within _ _ _ c.requires.0 _ c.in-Some.ensures true (search rules)))

pub play_side-requires : goal.play_side-requires
play_side-requires c = turn-ready _ _ _ c.requires.0 _ c.in-Some.ensures true (search rules)

pub returns-then-turn : goal.returns-then-turn
returns-then-turn c = turn-goes _ _ _ c.requires.0 _ c.in-Some.ensures true (search rules) _ _ c.requires.1 _ _ c.play_side.ensures

pub slice_bounds-play_side-end-2 : goal.slice_bounds-play_side-end-2
slice_bounds-play_side-end-2 c = sym (length-take-le _ _ (turn-within _ _ _ c.requires.0 _ c.in-Some.ensures false (search rules)))

pub play_side-requires-2 : goal.play_side-requires-2
play_side-requires-2 c = turn-ready _ _ _ c.requires.0 _ c.in-Some.ensures false (search rules)

pub returns : goal.returns
returns c = turn-goes _ _ _ c.requires.0 _ c.in-Some.ensures false (search rules) _ _ c.requires.1 _ _ c.play_side-2.ensures
