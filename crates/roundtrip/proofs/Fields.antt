-- Reading a number, or octets, off fields that are joined: once over the width and the place.
-- Assumes nothing.
use Prim.Native.Nat.{ℕ, zero, suc, ◌+◌, ◌-◌, ◌*◌, ◌/◌, ◌%◌, ◌^◌, ◌<◌, ◌≤◌}
use mathlib.Core.Path.{◌≡◌, refl, sym, ap, ◌∙◌}
use mathlib.Core.Bool.{true, ◌&&◌}
use mathlib.Core.List.{List, ◌∷◌, ◌++◌}
use native.Mathlib.Nat.{zero-add, pow-succ', mul-pos, one-le-pow}
use native.Mathlib.Omega.{arith}
use lib.ListN.{length, take, drop, get_or, take-append-drop}
use lib.Seq.{get_or-drop, take_at, drop_at}
use lib.IntN.{ℤ, pos, negsuc}
use lib.Signed.{mag}
use lib.Dec.{eqb}
use borrow.Author.Tests.{lt-ltb, le-ltb, le-leb, eq-eqb, ne_eqb}
use Rattle.octets.specs.Octets.{le, octets, signed32}
use Rattle.octets.proofs.Le.{le-add}
use Rattle.vector.specs.declared.Vector.{Vector}
use Rattle.vector.specs.Vector.{extent, keeps_rule, shown}
use Rattle.vector.proofs.Rule.{inside-rule}
use Rattle.message.specs.Show.{signed_in}
use Rattle.put.specs.Put.{octets_of, unsigned32, joined}
use Rattle.put.proofs.Laws.{joined-append}
use Rattle.roundtrip.specs.ReadBack.{zeros, LeOctets, SignedBack}

pub le-drop : (k : ℕ) (s : List ℕ) (at : ℕ) → le k s at ≡ le k (drop at s) 0
unfolding le
le-drop zero s at = refl
le-drop (suc k) s at = simp (← le-drop k s at, get_or-drop, zero-add)

le-first : (k y : ℕ) (s : List ℕ) → le (1 + k) (y ∷ s) 0 ≡ y + 256 * le k s 0
le-first k y s = le-add 1 k (y ∷ s) 0 ∙ ap (λ (n : ℕ). le 1 (y ∷ s) 0 + 256 * n) (le-drop k (y ∷ s) 1) ∙ ap (λ (n : ℕ). n + 256 * le k s 0) one where
  one : le 1 (y ∷ s) 0 ≡ y
  one = unfold le in omega arith

-- what is written as a number is read as that number
pub le-octets : LeOctets
unfolding le
le-octets zero x t h = omega arith
le-octets (suc k) x t h =
    let w : x / 256 < 256 ^ k = small in
    let e : suc k ≡ 1 + k = omega arith in
    ap (λ (n : ℕ). le n (x % 256 ∷ (octets_of k (x / 256) ++ t)) 0) e ∙ le-first k (x % 256) (octets_of k (x / 256) ++ t)
    ∙ ap (λ (n : ℕ). x % 256 + 256 * n) (le-octets k (x / 256) t w)
    ∙ whole where
      small : x / 256 < 256 ^ k
      small = let p : 256 ^ suc k ≡ 256 * 256 ^ k = pow-succ' 256 k in omega arith

      whole : x % 256 + 256 * (x / 256) ≡ x
      whole = omega arith

-- octets are all zero exactly when their number is: once over the width
sum-zero : (a b p : ℕ) → 0 < p → eqb a 0 && eqb b 0 ≡ eqb (a + p * b) 0
sum-zero zero zero p h = let w : 0 + p * 0 ≡ 0 = omega arith in sym (eq-eqb _ _ w)
sum-zero zero (suc b) p h =
    let w : 0 < p * suc b = mul-pos h (omega arith) in
    ne_eqb (suc b) 0 (λ e. omega arith) ∙ sym (ne_eqb (0 + p * suc b) 0 (λ e. omega arith))
sum-zero (suc a) b p h = rw (ne_eqb (suc a) 0 (λ e. omega arith)) (sym (ne_eqb (suc a + p * b) 0 (λ e. omega arith)))

pub zeros-le : (k : ℕ) (m : List ℕ) (at : ℕ) → zeros k m at ≡ eqb (le k m at) 0
unfolding zeros le
zeros-le zero m at = refl
zeros-le (suc k) m at = rw (zeros-le k m at) (sum-zero (le k m at) (get_or m (at + k) 0) (256 ^ k) (one-le-pow k 256 (omega arith)))

pub drop-joined : (i : ℕ) (fs : List (List ℕ)) (at : ℕ) → length (joined (take i fs)) ≡ at → drop at (joined fs) ≡ joined (drop i fs)
drop-joined i fs at e =
    ap (λ (l : List (List ℕ)). drop at (joined l)) (sym (take-append-drop i fs)) ∙ ap (drop at) (joined-append (take i fs) (drop i fs))
    ∙ drop_at (joined (take i fs)) (joined (drop i fs)) at e

-- field i of fs, which stands at `at`
module _ (i at : ℕ) (fs : List (List ℕ)) (starts : length (joined (take i fs)) ≡ at) where
  pub number_at : (k x : ℕ) (rest : List (List ℕ)) → drop i fs ≡ octets_of k x ∷ rest → x < 256 ^ k → le k (joined fs) at ≡ x
  number_at k x rest e h =
      le-drop k (joined fs) at ∙ ap (λ (l : List ℕ). le k l 0) (drop-joined i fs at starts ∙ ap joined e) ∙ le-octets k x (joined rest) h

  pub octets-at : (f : List ℕ) (rest : List (List ℕ)) → drop i fs ≡ f ∷ rest → (n : ℕ) → length f ≡ n → octets n (joined fs) at ≡ f
  octets-at f rest e n h = ap (take n) (drop-joined i fs at starts ∙ ap joined e) ∙ take_at f (joined rest) n h

-- a vector that keeps its rule shows the octets where it lies
pub shown-field : (header : ℕ) (m f : List ℕ) (v : Vector) → keeps_rule header (length m) v ≡ true → octets (extent v) m v.offset.0 ≡ f
    → shown header m v ≡ f
unfolding shown
shown-field header m f v k e = rw k e

-- "Written messages put the payload directly after the header": a vector of so many elements from the header's end on
abbrev pub behind_header : ℕ → ℕ → ℕ → Vector
behind_header size header count = record { size = size; offset = record { 0 = header }; count = count }

module _ (size header count : ℕ) (f : List ℕ) (whole : count * size ≡ length f) where
  pub payload-rule : keeps_rule header (header + length f) (behind_header size header count) ≡ true
  payload-rule = inside-rule _ _ _ (record { behind = omega arith; before = omega arith })

  pub payload-shown : (m : List ℕ) → length m ≡ header + length f → octets (length f) m header ≡ f
      → shown header m (behind_header size header count) ≡ f
  payload-shown m n e = shown-field header m f (behind_header size header count) (rw n payload-rule) (rw whole e)

-- two's complement, there and back
pub signed_back : SignedBack
unfolding signed32
signed_back (pos n) f = simp (lt-ltb _ _ f)
signed_back (negsuc n) f =
    let a : 2147483648 ≤ 4294967295 - n = omega arith in
    let b : 4294967295 - (4294967295 - n) ≡ n = omega arith in
    simp (le-ltb _ _ a) (ap negsuc b)

-- what the reader of a signed number hands back of a message in which one was written
pub signed-shown : (least : ℕ) (m : List ℕ) (at : ℕ) (z : ℤ) → least ≤ length m → le 4 m at ≡ unsigned32 z → mag z < 2147483648
    → signed_in least m at ≡ z
unfolding signed_in
signed-shown least m at z h e r = simp (le-leb _ _ h) (ap signed32 e ∙ signed_back z r)

pub unsigned_small : (z : ℤ) → mag z < 2147483648 → unsigned32 z < 4294967296
unsigned_small (pos n) f = omega arith
unsigned_small (negsuc n) f = omega arith
