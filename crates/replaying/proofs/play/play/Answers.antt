use borrow.Author.Rules.{rules}
use mathlib.Core.Path.{◌≡◌, ap}
use mathlib.Core.Bool.{true, not}
use Rattle.std.specs.Prelude.{is_some}
use Rattle.replaying.proofs.Alls.{whole-ended}
use Rattle.replaying.proofs.play.play.Goals as goal

pub returns-then-is_some : goal.returns-then-is_some
returns-then-is_some c = let over : is_some c.start-replay.result.end ≡ true = search rules in whole-ended _ _ _ _ _ c.start-replay.ensures _ (ap not over)
