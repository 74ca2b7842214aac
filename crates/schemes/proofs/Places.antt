-- Places left: the common set less the marks as one number, its trailing zeros the lowest place and its ones their number.
-- Assumes nothing.
use Prim.Native.Nat.{ℕ, zero, suc, ◌+◌, ◌*◌, ◌-◌, ◌/◌, ◌%◌, ◌^◌, ◌≤◌, ◌<◌, min}
use mathlib.Core.Path.{◌≡◌, refl, sym, ap, ◌∙◌}
use mathlib.Core.Bool.{Bool, true, false, cond, not, ◌&&◌}
use mathlib.Core.Option.{some}
use mathlib.Core.List.{List, [], ◌∷◌, ◌++◌}
use native.Mathlib.Nat.{pow-suc, div-one, lt_of_le_of_lt, zero-add, add-zero}
use native.Mathlib.Numerals.{add-one}
use native.Mathlib.Omega.{arith}
use lib.ListN.{length, get_or, drop, length-map, get_or-eq_default}
use lib.Dec.{eqb}
use lib.Bits.{bit_and, and_step, and_le_l}
use lib.Count.{ones, ones_step, count_trailing_zeros, under}
use lib.Pow.{shr-shr}
use Rattle.schemes.specs.Lists.{Id, first, bit}
use Rattle.schemes.specs.Sets.{set_of, left, open_places, named}
use Rattle.schemes.specs.Answers.{marked_at, places_from, left_places, left_of}
use Rattle.schemes.specs.declared.Left.{Left}
use Rattle.schemes.proofs.Digits.{bit-shift}
use Rattle.schemes.proofs.Replies.{open_none}

-- ---- the lowest bit by itself
pub lowest : (m : ℕ) → m % 2 ≡ cond (bit m 0) 1 0
lowest m = go (m % 2) (omega arith) where
  go : (r : ℕ) → r < 2 → r ≡ cond (eqb r 1) 1 0
  go zero h = refl
  go (suc zero) h = refl
  go (suc (suc r)) h = absurd (omega arith)

both_bits : (x y : Bool) → min (cond x 1 0) (1 - cond y 1 0) ≡ cond (x && not y) 1 0
both_bits true true = refl
both_bits true false = refl
both_bits false true = refl
both_bits false false = refl

pub small : (b : Bool) → cond {A = ℕ} b 1 0 < 2
small true = omega arith
small false = omega arith

-- c less w, of n bits
abbrev pub less : ℕ → ℕ → ℕ → ℕ
less n c w = bit_and c (2 ^ n - 1 - w)

pub less-step : (n c w : ℕ) (y : Bool) → w < 2 ^ n → less (suc n) c (cond y 1 0 + 2 * w) ≡ less n (c / 2) w * 2 + cond (bit c 0 && not y) 1 0
less-step n c w y h =
    let v : ℕ = cond y 1 0 + 2 * w in
    let p : 2 ^ suc n ≡ 2 ^ n * 2 = pow-suc 2 n in
    let s = small y in
    let e : (2 ^ suc n - 1 - v) / 2 ≡ 2 ^ n - 1 - w = omega arith in
    let f : (2 ^ suc n - 1 - v) % 2 ≡ 1 - cond y 1 0 = omega arith in
    let g : min (c % 2) (1 - cond y 1 0) ≡ cond (bit c 0 && not y) 1 0 =
    ap (λ (x : ℕ). min x (1 - cond y 1 0)) (lowest c) ∙ both_bits (bit c 0) y in
    and_step c (2 ^ suc n - 1 - v) ∙ rw (e, f) (ap (λ (d : ℕ). less n (c / 2) w * 2 + d) g)

half : (q : ℕ) (b : Bool) → (q * 2 + cond b 1 0) / 2 ≡ q
half q b = omega (arith, small b)

odd : (q : ℕ) (b : Bool) → (q * 2 + cond b 1 0) % 2 ≡ cond b 1 0
odd q b = omega (arith, small b)

-- a set has no bit from the list's length on
pub set-bound : {A : Type 0} (p : A → Bool) (l : List A) → set_of p l < 2 ^ length l
unfolding set_of
set-bound p [] = omega arith
set-bound p (x ∷ l) =
    let w : 2 ^ suc (length l) ≡ 2 ^ length l * 2 = pow-suc 2 (length l) in
    omega (arith, set-bound p l, small (p x))

-- the common set less the marks, by the places ks
abbrev pub opened : List ℕ → ℕ → ℕ → ℕ
opened ks c m = less (length ks) c (marked_at ks m)

-- the first place left, or 0 where there is none
pub first-open : (ks : List ℕ) (c m : ℕ) → get_or (open_places ks c m) 0 0 ≡ get_or ks (count_trailing_zeros (length ks) (opened ks c m)) 0
unfolding open_places set_of count_trailing_zeros
first-open [] c m = refl
first-open (k ∷ ks) c m =
    rw (less-step (length ks) c (marked_at ks m) (bit m k) (set-bound (λ k. bit m k) ks))
    (go (bit c 0 && not (bit m k)) (first-open ks (c / 2) m))
  where
    go : (d : Bool) → get_or (open_places ks (c / 2) m) 0 0 ≡ get_or ks (count_trailing_zeros (length ks) (opened ks (c / 2) m)) 0
        → get_or (cond d (k ∷ open_places ks (c / 2) m) (open_places ks (c / 2) m)) 0 0
        ≡ get_or (k ∷ ks) (count_trailing_zeros (suc (length ks)) (opened ks (c / 2) m * 2 + cond d 1 0)) 0
    go true e = rw (half (opened ks (c / 2) m) true, odd (opened ks (c / 2) m) true)
    go false e = rw (half (opened ks (c / 2) m) false, odd (opened ks (c / 2) m) false) e

no_ones : 0 ≡ ones 0
unfolding ones
no_ones = refl

-- how many places are left
pub count-open : (ks : List ℕ) (c m : ℕ) → c < 2 ^ length ks → length (open_places ks c m) ≡ ones (opened ks c m)
unfolding open_places set_of
count-open [] c m h = let z : c ≡ 0 = omega arith in rw z (no_ones)
count-open (k ∷ ks) c m h =
    let p : 2 ^ suc (length ks) ≡ 2 ^ length ks * 2 = pow-suc 2 (length ks) in
    rw (less-step (length ks) c (marked_at ks m) (bit m k) (set-bound (λ k. bit m k) ks))
    (go (bit c 0 && not (bit m k)) (count-open ks (c / 2) m (omega arith)))
  where
    go : (d : Bool) → length (open_places ks (c / 2) m) ≡ ones (opened ks (c / 2) m)
        → length (cond d (k ∷ open_places ks (c / 2) m) (open_places ks (c / 2) m)) ≡ ones (opened ks (c / 2) m * 2 + cond d 1 0)
    go d e = count d e ∙ sym (ones_step (opened ks (c / 2) m * 2 + cond d 1 0) ∙ rw (half (opened ks (c / 2) m) d, odd (opened ks (c / 2) m) d)) where
      count : (d : Bool) → length (open_places ks (c / 2) m) ≡ ones (opened ks (c / 2) m)
          → length (cond d (k ∷ open_places ks (c / 2) m) (open_places ks (c / 2) m)) ≡ cond d 1 0 + ones (opened ks (c / 2) m)
      count true e = omega arith
      count false e = omega arith

-- a number that is not 0 has a lowest bit
pub zeros-below : (n w : ℕ) → w < 2 ^ n → (w ≡ 0 → ⊥) → count_trailing_zeros n w < n
unfolding count_trailing_zeros
zeros-below zero w h g = absurd (g (omega arith))
zeros-below (suc n) w h g =
    let p : 2 ^ suc n ≡ 2 ^ n * 2 = pow-suc 2 n in
    go (w % 2) refl (zeros-below n (w / 2) (omega arith))
  where
    high : w % 2 ≡ 0 → w / 2 ≡ 0 → ⊥
    high e z = g (omega arith)

    go : (r : ℕ) → w % 2 ≡ r → ((w / 2 ≡ 0 → ⊥) → count_trailing_zeros n (w / 2) < n) → under r (count_trailing_zeros n (w / 2)) < suc n
    go zero e i = omega (arith, i (high e))
    go (suc r) e i = omega arith

-- ---- the initiator's answer, in the words of the code
module _ (ks : List ℕ) (c m : ℕ) (sized : length ks ≡ 16) (fits : c < 65536) (w : ℕ) (w-is : w ≡ marked_at ks m) where
  number : opened ks c m ≡ bit_and c (65535 - w)
  number = rw (sized, w-is)

  pub choice-some : ◌≡◌ {A = Left} (record { place = get_or ks (count_trailing_zeros 16 (bit_and c (65535 - w))) 0; left = ones (bit_and c (65535 - w)) })
      (left_of (open_places ks c m))
  unfolding left_of
  choice-some =
      let h : c < 2 ^ length ks = rw sized fits in
      let a = first-open ks c m in
      let b = count-open ks c m h in
      rw (a, b, number, sized)

  pub choice-none : bit_and c (65535 - w) ≡ 0 → ◌≡◌ {A = Left} (record { place = 0; left = 0 }) (left_of (open_places ks c m))
  unfolding ones count_trailing_zeros
  choice-none e = zeros ∙ (rw e at choice-some) where
    zeros : ◌≡◌ {A = Left} (record { place = 0; left = 0 }) (record { place = get_or ks (count_trailing_zeros 16 0) 0; left = ones 0 })
    zeros = let d : get_or ks 16 0 ≡ 0 = get_or-eq_default ks 0 (omega arith) in rw d

  pub choice-inside : (bit_and c (65535 - w) ≡ 0 → ⊥) → count_trailing_zeros 16 (bit_and c (65535 - w)) < 16
  choice-inside g = zeros-below 16 (bit_and c (65535 - w)) (lt_of_le_of_lt (and_le_l c (65535 - w)) fits) g

-- ---- the places from k on
pub length-places : (k n : ℕ) → length (places_from k n) ≡ n
unfolding places_from
length-places k zero = refl
length-places k (suc n) = ap suc (length-places (suc k) n)

pub places-at : (k n j : ℕ) → j < n → get_or (places_from k n) j 0 ≡ k + j
unfolding places_from
places-at k zero j h = absurd (omega arith)
places-at k (suc n) zero h = omega arith
places-at k (suc n) (suc j) h = places-at (suc k) n j (omega arith) ∙ omega arith

halved : (m k : ℕ) → m / 2 ^ suc k ≡ m / 2 ^ k / 2
halved m k = sym (rw add-one at (shr-shr m k 1))

-- by these places the marks are what they are
pub marked-places : (k n m : ℕ) → m / 2 ^ k < 2 ^ n → marked_at (places_from k n) m ≡ m / 2 ^ k
unfolding set_of places_from
marked-places k zero m h = omega arith
marked-places k (suc n) m h =
    let p : 2 ^ suc n ≡ 2 ^ n * 2 = pow-suc 2 n in
    let e : m / 2 ^ suc k ≡ m / 2 ^ k / 2 = halved m k in
    let i : marked_at (places_from (suc k) n) m ≡ m / 2 ^ k / 2 = marked-places (suc k) n m (rw e (omega arith)) ∙ e in
    let l : m / 2 ^ k % 2 ≡ cond (bit m k) 1 0 = lowest (m / 2 ^ k) ∙ rw (bit-shift m k) in
    rw (i, ← l) (omega arith)

-- ---- the acceptor's answer, in the words of the code
module _ (c m : ℕ) (fits : c < 65536) (marks : m < 65536) where
  own-marks : m ≡ marked_at (places_from 0 16) m
  own-marks = sym (marked-places 0 16 m (rw div-one marks) ∙ div-one m)

  pub own-none : bit_and c (65535 - m) ≡ 0 → ◌≡◌ {A = Left} (record { place = 0; left = 0 }) (left_of (left_places 16 c m))
  own-none e = choice-none (places_from 0 16) c m (length-places 0 16) fits m own-marks e

  pub own-some : (bit_and c (65535 - m) ≡ 0 → ⊥)
      → ◌≡◌ {A = Left} (record { place = count_trailing_zeros 16 (bit_and c (65535 - m)); left = ones (bit_and c (65535 - m)) }) (left_of (left_places 16 c m))
  own-some g =
      let k : ℕ = count_trailing_zeros 16 (bit_and c (65535 - m)) in
      let h : k < 16 = choice-inside (places_from 0 16) c m (length-places 0 16) fits m own-marks g in
      let e : get_or (places_from 0 16) k 0 ≡ k = places-at 0 16 k h ∙ omega arith in
      rw e at (choice-some (places_from 0 16) c m (length-places 0 16) fits m own-marks)

-- ---- the initiator's answer, from the acceptor's on the marks by the kept places
no-places : (l : List ℕ) → length l ≡ 0 → ◌≡◌ {A = Left} (left_of l) (record { place = 0; left = 0 })
unfolding left_of
no-places [] h = refl
no-places (x ∷ l) h = absurd (omega arith)

counted : (l : List ℕ) → (left_of l).left ≡ length l
unfolding left_of
counted l = refl

module _ (ks : List ℕ) (c m : ℕ) (sized : length ks ≡ 16) (fits : c < 65536) (w : ℕ) (w-is : w ≡ marked_at ks m) (marks : w < 65536)
    (o : Left) (o_is : o ≡ left_of (left_places 16 c w)) where
  count-own : length (left_places 16 c w) ≡ o.left
  count-own = sym (ap (λ (x : Left). x.left) o_is ∙ counted (left_places 16 c w))

  count-kept : length (open_places ks c m) ≡ o.left
  count-kept =
      let a = count-open ks c m (rw sized fits) in
      let b = count-open (places_from 0 16) c w (rw length-places fits) in
      let e : opened ks c m ≡ opened (places_from 0 16) c w = rw (sized, length-places, w-is) (ap (less 16 c) (rw (← w-is) (own-marks c w fits marks))) in
      a ∙ ap ones e ∙ sym b ∙ count-own

  pub kept-none : o.left ≡ 0 → o ≡ left_of (open_places ks c m)
  kept-none h = o_is ∙ no-places (left_places 16 c w) (count-own ∙ h) ∙ sym (no-places (open_places ks c m) (count-kept ∙ h))

  module _ (some-left : o.left ≡ 0 → ⊥) where
    open-some : bit_and c (65535 - w) ≡ 0 → ⊥
    open-some z = some-left (ap (λ (x : Left). x.left) (o_is ∙ sym (own-none c w fits marks z)))

    own-is : ◌≡◌ {A = Left} o (record { place = count_trailing_zeros 16 (bit_and c (65535 - w)); left = ones (bit_and c (65535 - w)) })
    own-is = o_is ∙ sym (own-some c w fits marks open-some)

    pub kept-inside : o.place < 16
    kept-inside = rw (ap (λ (x : Left). x.place) own-is) (choice-inside ks c m sized fits w w-is open-some)

    pub kept-some : ◌≡◌ {A = Left} (record { place = get_or ks o.place 0; left = o.left }) (left_of (open_places ks c m))
    kept-some = ap (λ (x : Left). record { place = get_or ks x.place 0; left = x.left }) own-is ∙ choice-some ks c m sized fits w w-is

pub ruleset choices = (own-none, own-some, kept-none, kept-inside, kept-some)

-- ---- for callers: what a set without bits beyond some places leaves, it leaves among them
pub open-append : (ks zs : List ℕ) (c m : ℕ) → c < 2 ^ length ks → open_places (ks ++ zs) c m ≡ open_places ks c m
unfolding open_places
open-append [] zs c m h = let z : c ≡ 0 = omega arith in rw z (open_none zs m)
open-append (k ∷ ks) zs c m h =
    let p : 2 ^ suc (length ks) ≡ 2 ^ length ks * 2 = pow-suc 2 (length ks) in
    rw (open-append ks zs (c / 2) m (omega arith))

places-append : (k n j : ℕ) → places_from k (n + j) ≡ places_from k n ++ places_from (k + n) j
unfolding places_from
places-append k zero j = simp (zero-add, add-zero)
places-append k (suc n) j =
    let e : suc n + j ≡ suc (n + j) = omega arith in
    let f : k + suc n ≡ suc k + n = omega arith in
    rw (e, f) (ap (λ (l : List ℕ). k ∷ l) (places-append (suc k) n j))

pub left_below : (n c m : ℕ) → n ≤ 16 → c < 2 ^ n → left_places 16 c m ≡ left_places n c m
left_below n c m h g =
    let e : 16 ≡ n + (16 - n) = omega arith in
    let f : c < 2 ^ length (places_from 0 n) = rw length-places g in
    ap (λ (k : ℕ). open_places (places_from 0 k) c m) e ∙ ap (λ (l : List ℕ). open_places l c m) (places-append 0 n (16 - n))
    ∙ open-append (places_from 0 n) _ c m f

-- ---- for callers: the schemes at the acceptor's places left are the own list's schemes left
named-from : (own : List Id) (k : ℕ) (l : List Id) (c m : ℕ) → drop k own ≡ l
    → named own (open_places (places_from k (length l)) c m) ≡ left l c (m / 2 ^ k)
unfolding open_places places_from left
named-from own k [] c m e = refl
named-from own k (x ∷ l) c m e =
    let (u, v) = split own k e in
    let b : bit (m / 2 ^ k) 0 ≡ bit m k = bit-shift m k in
    let i : named own (open_places (places_from (suc k) (length l)) (c / 2) m) ≡ left l (c / 2) (m / 2 ^ k / 2) =
    named-from own (suc k) l (c / 2) m v ∙ rw (halved m k) in
    rw b (go (bit c 0 && not (bit m k)) u i)
  where
    split : (s : List Id) (j : ℕ) → drop j s ≡ x ∷ l → (get_or s j [] ≡ x) × (drop (suc j) s ≡ l)
    split [] zero f = let z : ◌≡◌ {A = ℕ} 0 1 = cc in absurd (omega arith)
    split [] (suc j) f = let z : ◌≡◌ {A = ℕ} 0 1 = cc in absurd (omega arith)
    split (y ∷ s) zero f = (cc, cc)
    split (y ∷ s) (suc j) f = split s j f

    go : (d : Bool) → get_or own k [] ≡ x → named own (open_places (places_from (suc k) (length l)) (c / 2) m) ≡ left l (c / 2) (m / 2 ^ k / 2)
        → named own (cond d (k ∷ open_places (places_from (suc k) (length l)) (c / 2) m) (open_places (places_from (suc k) (length l)) (c / 2) m))
        ≡ cond d (x ∷ left l (c / 2) (m / 2 ^ k / 2)) (left l (c / 2) (m / 2 ^ k / 2))
    go true u i = rw (u, i)
    go false u i = i

pub named-left : (own : List Id) (c m : ℕ) → named own (left_places (length own) c m) ≡ left own c m
named-left own c m = named-from own 0 own c m refl ∙ rw div-one

-- ---- for callers: the first scheme at the places left, and their number
pub count-named : (own : List Id) (ps : List ℕ) → length (named own ps) ≡ (left_of ps).left
unfolding left_of
count-named own ps = length-map ps (λ k. get_or own k [])

pub first-named : (own : List Id) (ps : List ℕ) → ((left_of ps).left ≡ 0 → ⊥) → first (named own ps) ≡ some (get_or own (left_of ps).place [])
unfolding left_of
first-named own [] h = absurd (h refl)
first-named own (p ∷ ps) h = refl
