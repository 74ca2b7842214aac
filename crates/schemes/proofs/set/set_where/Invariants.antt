use Prim.Native.Nat.{ℕ, ◌<◌}
use mathlib.Core.Path.{◌≡◌}
use mathlib.Core.Bool.{Bool}
use Rattle.schemes.specs.Sets.{set_of}
use Rattle.schemes.specs.Answers.{places_from}
use Rattle.schemes.proofs.set.set_where.Given as goal

abbrev pub invariant-loop-k : goal.invariant-loop-k
invariant-loop-k g l =
    (p : ℕ → Bool) → ((k : ℕ) (b : Bool) → k < l.fn.n → goal.F-post g l.fn.holds k b → b ≡ p k)
    → l.set ≡ set_of p (places_from 0 l.k)
