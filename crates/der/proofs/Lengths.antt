-- The shortest length, read back.
-- Assumes nothing.
use Prim.Native.Nat.{ℕ, ◌+◌, ◌-◌, ◌<◌, ◌≤◌}
use mathlib.Core.Path.{◌≡◌, refl}
use mathlib.Core.Bool.{true, false}
use mathlib.Core.List.{List, ◌++◌}
use mathlib.Core.Logic.{◌⊎◌, inl, inr}
use native.Mathlib.Omega.{arith}
use lib.ListN.{length}
use lib.Dec.{ltb}
use borrow.Author.Tests.{ltb-true}
use Rattle.octets.proofs.Bools.{which}
use Rattle.der.specs.Element.{length_of, length_in, number_from, lead_of, size_of}

pub record Reads (n : ℕ) (v s : List ℕ) : Type 0 where
  pub lead : lead_of (v ++ s) ≡ length v
  pub size : size_of (v ++ s) ≡ n

pub length-reads : (n : ℕ) (s : List ℕ) → n ≤ 65535 → Reads n (length_of n) s
unfolding length_of lead_of size_of length_in number_from
length-reads n s h = go (which (ltb n 128)) (which (ltb n 256)) where
  go : (ltb n 128 ≡ true) ⊎ (ltb n 128 ≡ false) → (ltb n 256 ≡ true) ⊎ (ltb n 256 ≡ false) → Reads n (length_of n) s
  go (inl a) b = let k : n < 128 = ltb-true n 128 a in
      let z : 1 + (n - 128) ≡ 1 = omega arith in
      rw a (record { lead = z; size = rw (z, a) })
  go (inr a) (inl b) = rw (a, b) (record { lead = refl; size = omega arith })
  go (inr a) (inr b) = rw (a, b) (record { lead = refl; size = omega arith })
