-- A part of a buffer, wherever its ends lie, in the words of the code.
-- Assumes nothing.
use Prim.Native.Nat.{ℕ, ◌-◌, ◌<◌, ◌≤◌}
use Rattle.std.specs.Prelude.{min}
use mathlib.Core.Path.{◌≡◌, sym, ◌∙◌}
use mathlib.Core.List.{List, []}
use mathlib.Core.Bool.{true, false}
use mathlib.Core.Logic.{◌⊎◌, inl, inr}
use native.Mathlib.Omega.{arith}
use lib.ListN.{length, take, drop, length-drop, drop_of_length-le}
use lib.Seq.{take_all, take-nil, take-length}
use borrow.Author.Tests.{le-leb, lt-leb, ltb-true, ltb-false}
use Rattle.octets.proofs.Bools.{which}
use lib.Dec.{ltb}
use Rattle.der.specs.Holder.{HolderAt, octets_at, part}
use Rattle.der.specs.declared.Part.{Part as Section}
use Rattle.envelope_parts.specs.Parts.{identifier_of, mechanism_of}

module _ (s : List ℕ) (p : Section) (n : ℕ) (n-is : n ≡ min p.end (length s)) where
  pub part-backwards : n < p.from → [] ≡ octets_at s p
  unfolding part
  part-backwards h = go (which (ltb p.end p.from)) where
    go : (ltb p.end p.from ≡ true) ⊎ (ltb p.end p.from ≡ false) → [] ≡ take (p.end - p.from) (drop p.from s)
    go (inl a) = let l : p.end < p.from = ltb-true _ _ a in let z : p.end - p.from ≡ 0 = omega arith in rw z
    go (inr a) =
        let l : p.from ≤ p.end = ltb-false _ _ a in
        let g : length s ≤ p.from = omega arith in
        rw (drop_of_length-le s g) (sym (take-nil (p.end - p.from)))

  pub part-inside : p.from ≤ n → take (n - p.from) (drop p.from s) ≡ octets_at s p
  unfolding part
  part-inside h = go (which (ltb (length s) p.end)) where
    go : (ltb (length s) p.end ≡ true) ⊎ (ltb (length s) p.end ≡ false) → take (n - p.from) (drop p.from s) ≡ take (p.end - p.from) (drop p.from s)
    go (inl a) =
        let l : length s < p.end = ltb-true _ _ a in
        take_all (n - p.from) (drop p.from s) (omega (arith, length-drop p.from s))
        ∙ sym (take_all (p.end - p.from) (drop p.from s) (omega (arith, length-drop p.from s)))
    go (inr a) =
        let l : p.end ≤ length s = ltb-false _ _ a in
        let z : n ≡ p.end = omega arith in
        rw z

pub ruleset parts = (part-backwards, part-inside)

-- a list that is not too long
module _ (v w : List ℕ) (k : ℕ) (is : v ≡ w) where
  pub mechanism-long : 65535 < length v → [] ≡ mechanism_of k w
  unfolding mechanism_of
  mechanism-long h = rw (← is, lt-leb (length v) 65535 h)

  pub mechanism-found : length v ≤ 65535 → (r : List ℕ) → r ≡ identifier_of k (part v 0 (length v)) → r ≡ mechanism_of k w
  unfolding mechanism_of part
  mechanism-found short r e =
      let z : length v - 0 ≡ length v = omega arith in
      e ∙ rw (← is, z, take-length v, le-leb (length v) 65535 short)

pub mechanism-holder : (v : List ℕ) → length v ≤ 65535 → HolderAt v (record { from = 0; end = length v })
mechanism-holder v short = record { order = omega arith; inside = omega arith; small = short }

pub ruleset mechanisms = (mechanism-long, mechanism-found, mechanism-holder)
