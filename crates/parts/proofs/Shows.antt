-- The vector readers' answers, in the words of the code.
-- Assumes nothing.
use Prim.Native.Nat.{ℕ, zero, suc, ◌+◌, ◌<◌}
use mathlib.Core.Path.{◌≡◌, refl, ap}
use mathlib.Core.Bool.{true, false}
use mathlib.Core.Logic.{◌⊎◌, inl, inr}
use mathlib.Core.List.{List, []}
use native.Mathlib.Omega.{arith}
use lib.ListN.{length}
use Rattle.octets.proofs.Bools.{which}
use Rattle.vector.specs.declared.Vector.{Vector}
use Rattle.vector.specs.Vector.{extent, keeps_rule, shown}
use Rattle.vector.proofs.Rule.{rule-inside, shown-empty, shown-none}
use Rattle.message.specs.Layout.{elements_at}

-- a slice that has no room for the header shows nothing
pub shown-short : (header : ℕ) (m : List ℕ) (v : Vector) → length m < header → [] ≡ shown header m v
shown-short header m v h = go (which (keeps_rule header (length m) v)) where
  empty : (n : ℕ) → extent v ≡ n → keeps_rule header (length m) v ≡ true → extent v ≡ 0
  empty zero e t = e
  empty (suc n) e t = let i = rule-inside header (length m) v t (λ z. omega arith) in absurd (omega (arith, i))

  go : (keeps_rule header (length m) v ≡ true) ⊎ (keeps_rule header (length m) v ≡ false) → [] ≡ shown header m v
  go (inr t) = shown-none header m v t
  go (inl t) = shown-empty header m v (empty (extent v) refl t)

-- as many elements are read as are asked for
pub length-elements : (n : ℕ) (a : List ℕ) (at : ℕ) → length (elements_at n a at) ≡ n
unfolding elements_at
length-elements zero a at = refl
length-elements (suc n) a at = ap suc (length-elements n a (at + 12))

pub ruleset shows = (shown-short)
