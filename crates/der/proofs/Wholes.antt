-- A number in octets, capped, octet by octet.
-- Assumes nothing.
use Prim.Native.Nat.{ℕ, suc, ◌+◌, ◌*◌, ◌<◌, ◌≤◌}
use mathlib.Core.Path.{◌≡◌, sym, ◌∙◌}
use mathlib.Core.List.{List, [], ◌∷◌}
use native.Mathlib.Numerals.{add-one}
use native.Mathlib.Omega.{arith}
use lib.ListN.{length, drop, get_or, drop_of_length-le}
use lib.Seq.{drop-cons}
use Rattle.der.specs.Element.{number_from}
use Rattle.der.specs.Holder.{capped}

pub capped-from : (m n : ℕ) (v : List ℕ) → capped m ≡ capped n → capped (number_from m v) ≡ capped (number_from n v)
unfolding number_from
capped-from m n [] h = h
capped-from m n (x ∷ v) h = capped-from (m * 256 + x) (n * 256 + x) v (omega arith)

module _ (v : List ℕ) (n i : ℕ) (inv : capped (number_from 0 v) ≡ capped (number_from n (drop i v))) where
  pub whole-end : length v ≤ i → n ≤ 65536 → n ≡ capped (number_from 0 v)
  unfolding number_from
  whole-end h k = sym (inv ∙ rw (drop_of_length-le v h) (omega arith))

  pub whole-more : i < length v → (m : ℕ) → m ≡ capped (n * 256 + get_or v i 0) → capped (number_from 0 v) ≡ capped (number_from m (drop (i + 1) v))
  unfolding number_from
  whole-more h m e = inv ∙ rw (drop-cons v i 0, add-one) (capped-from (n * 256 + get_or v i 0) m (drop (suc i) v) (omega arith))

pub ruleset wholes = (whole-end, whole-more)
