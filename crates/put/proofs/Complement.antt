-- The machine's -1 - z, for z below zero, and z itself otherwise, as two's complement has them.
-- Assumes nothing.
use Prim.Native.Nat.{ℕ, suc, ◌+◌, ◌-◌, ◌<◌, ◌^◌}
use mathlib.Core.Path.{◌≡◌, refl, sym, ap, ◌∙◌}
use mathlib.Core.Bool.{true, false}
use native.Mathlib.Omega.{arith}
use lib.IntN.{ℤ, pos, negsuc, nat_abs, ◌-ℤ◌}
use lib.Signed.{lt_z, mag}
use borrow.Author.Tests.{le-ltb, ltb-true}
use mir.Syntax.{w32}
use mir.Val.{SFits, to_z, of_z}
use mir.Facts.{to_z-of_z}
use Rattle.put.specs.Put.{unsigned32}

minus : (n : ℕ) → negsuc 0 -ℤ negsuc n ≡ pos n
minus n = let e : suc n - 1 ≡ n = omega arith in simp (le-ltb (suc n) 1 (omega arith)) (ap pos e)

-- a signed number below zero, and any other
pub record Below (z : ℤ) : Type 0 where
  pub small : mag z < 2 ^ 31
  pub minus_is : negsuc 0 -ℤ z ≡ pos (mag z)
  pub unsigned_is : unsigned32 z ≡ 4294967295 - mag z
  pub abs_is : nat_abs z ≡ mag z + 1
  pub is : z ≡ negsuc (mag z)

pub record Above (z : ℤ) : Type 0 where
  pub small : mag z < 2 ^ 31
  pub unsigned_is : unsigned32 z ≡ mag z
  pub abs_is : nat_abs z ≡ mag z
  pub is : z ≡ pos (mag z)

below : (z : ℤ) → mag z < 2 ^ 31 → lt_z z (pos 0) ≡ true → Below z
below (pos n) f t = absurd (omega (arith, ltb-true n 0 t))
below (negsuc n) f t = record { small = f; minus_is = minus n; unsigned_is = refl; abs_is = omega arith; is = refl }

above : (z : ℤ) → mag z < 2 ^ 31 → lt_z z (pos 0) ≡ false → Above z
above (pos n) f t = record { small = f; unsigned_is = refl; abs_is = refl; is = refl }
above (negsuc n) f t = let z : ◌≡◌ {A = ℕ} 0 1 = cc in absurd (omega arith)

-- in the words of the code
module _ (z : ℤ) (f : SFits w32 z) where
  pub is_below : lt_z (to_z w32 (of_z w32 z)) (pos 0) ≡ true → Below z
  is_below t = below z f.sfits (ap (λ (y : ℤ). lt_z y (pos 0)) (sym (to_z-of_z f)) ∙ t)

  pub is-above : lt_z (to_z w32 (of_z w32 z)) (pos 0) ≡ false → Above z
  is-above t = above z f.sfits (ap (λ (y : ℤ). lt_z y (pos 0)) (sym (to_z-of_z f)) ∙ t)
