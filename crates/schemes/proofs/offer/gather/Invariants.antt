use mathlib.Core.Path.{◌≡◌}
use Rattle.message.specs.Show.{ids_at}
use Rattle.schemes.specs.Sets.{left}
use Rattle.schemes.specs.Answers.{schemes_of}
use Rattle.schemes.proofs.offer.gather.Given as goal

abbrev pub invariant-loop-place : goal.invariant-loop-place
invariant-loop-place l = l.schemes ≡ schemes_of (left (ids_at l.place l.list) l.set 0)
