-- The signed number that 32 bits stand for is the one that the machine reads in them.
-- Assumes nothing.
use Rattle.std.proofs.Common.{ℕ, suc, ◌≡◌, ◌-◌, ◌^◌, ap, refl, arith, Bool, true, false}
use lib.IntN.{pos, negsuc}
use lib.Dec.{ltb}
use mir.Syntax.{w32}
use mir.Val.{to_z, sel}
use Rattle.octets.specs.Octets.{signed32, pickℤ}

pub machine : (n : ℕ) → to_z w32 n ≡ signed32 n
unfolding signed32
machine n = go (ltb n 2147483648) where
  go : (b : Bool) → sel b (pos n) (negsuc (2 ^ 32 - suc n)) ≡ pickℤ b (pos n) (negsuc (4294967295 - n))
  go true = refl
  go false = let e : 2 ^ 32 - suc n ≡ 4294967295 - n = omega arith in ap negsuc e
