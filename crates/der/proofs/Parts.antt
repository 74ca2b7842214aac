-- Parts of a buffer.
-- Assumes nothing.
use Prim.Native.Nat.{ℕ, zero, suc, ◌+◌, ◌-◌, ◌<◌, ◌≤◌}
use mathlib.Core.Path.{◌≡◌, sym, ◌∙◌}
use mathlib.Core.List.{List, [], ◌∷◌}
use native.Mathlib.Numerals.{add-one}
use native.Mathlib.Omega.{arith}
use lib.ListN.{length, take, drop, get_or, length-drop}
use lib.Seq.{take-nil, take-take, drop-drop, drop-cons, length-take-le, get_or-take, get_or-drop}
use Rattle.der.specs.Holder.{part}

drop-take : (i n : ℕ) (l : List ℕ) → drop i (take n l) ≡ take (n - i) (drop i l)
drop-take zero n l = let z : n - 0 ≡ n = omega arith in rw z
drop-take (suc i) zero l = let z : 0 - suc i ≡ 0 = omega arith in rw z
drop-take (suc i) (suc n) [] = sym (take-nil (suc n - suc i))
drop-take (suc i) (suc n) (x ∷ l) = let z : suc n - suc i ≡ n - i = omega arith in rw z (drop-take i n l)

pub part_none : (s : List ℕ) (at : ℕ) → part s at at ≡ []
unfolding part
part_none s at = let z : at - at ≡ 0 = omega arith in rw z

module _ (s : List ℕ) (at end : ℕ) (order : at ≤ end) (inside : end ≤ length s) where
  pub length_part : length (part s at end) ≡ end - at
  unfolding part
  length_part = length-take-le (end - at) (drop at s) (simp length-drop (omega arith))

  pub drop-part : (i : ℕ) → drop i (part s at end) ≡ part s (at + i) end
  unfolding part
  drop-part i =
      let z : end - at - i ≡ end - (at + i) = omega arith in
      drop-take i (end - at) (drop at s) ∙ rw (z, drop-drop i at s)

  pub take_part : (i : ℕ) → at + i ≤ end → take i (part s at end) ≡ part s at (at + i)
  unfolding part
  take_part i h =
      let z : at + i - at ≡ i = omega arith in
      rw z (take-take i (end - at) (drop at s) (omega arith))

  pub get_or-part : (i : ℕ) → at + i < end → get_or (part s at end) i 0 ≡ get_or s (at + i) 0
  unfolding part
  get_or-part i h = get_or-take (end - at) (drop at s) i 0 (omega arith) ∙ get_or-drop at s i 0

pub part-cons : (s : List ℕ) (at end : ℕ) → at < end → end ≤ length s → part s at end ≡ get_or s at 0 ∷ part s (at + 1) end
unfolding part
part-cons s at end h k =
    let z : end - at ≡ suc (end - (at + 1)) = omega arith in
    rw (drop-cons s at 0 (omega arith), z) (simp add-one)
