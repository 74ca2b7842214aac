-- Octets from pairs of digits, and ids from their text, in the words of the code.
-- Assumes nothing.
use Prim.Native.Nat.{ℕ, suc, ◌+◌, ◌*◌, ◌/◌, ◌%◌, ◌≤◌, ◌<◌}
use mathlib.Core.Path.{◌≡◌, refl, sym, ap, ◌∙◌}
use mathlib.Core.Bool.{Bool, true, false, cond}
use mathlib.Core.List.{List, [], ◌∷◌, ◌++◌, append_assoc, append-nil}
use native.Mathlib.Numerals.{add-one}
use native.Mathlib.Omega.{arith}
use lib.ListN.{length, take, drop, get_or, set, length-append, drop_of_length-le}
use lib.Seq.{drop-cons, drop-set-lt, take_all, take-suc-set, length-take-le}
use lib.Dec.{ltb}
use borrow.Author.Tests.{lt-ltb, le-ltb, le-leb, lt-leb}
use Rattle.std.proofs.Common.{Option, Some, None}
use Rattle.fields.proofs.Numerals.{below-some, below-none}
use Rattle.fields.specs.Fields.{below, pair_of, Octets, of, none, behind_all, front, bad, fit, pairs_of, decoded_as, Decodes, octets_at}

pub behind-twice : (l m : List ℕ) (x : Octets) → behind_all l (behind_all m x) ≡ behind_all (l ++ m) x
behind-twice l m (of r) = ap of (sym (append_assoc l m r))
behind-twice l m none = refl

pub behind-none : (x : Octets) → x ≡ behind_all [] x
behind-none (of r) = refl
behind-none none = refl

-- one octet more
stored : (d : List ℕ) (i v : ℕ) (x : Octets) → i < length d → behind_all (take i d) (behind_all (v ∷ []) x) ≡ behind_all (take (i + 1) (set d i v)) x
stored d i v x h = behind-twice (take i d) (v ∷ []) x ∙ rw (add-one, take-suc-set d i v)

-- what fits, and what does not
pub fits : (room n : ℕ) (x : Octets) (o : List ℕ) → x ≡ of o → length o ≡ n → n ≤ room → front n o ≡ fit room x
fits room n x o e l h = rw (e, l, le-leb _ _ h)

pub fits_not : (room : ℕ) (x : Octets) → x ≡ none → bad ≡ fit room x
fits_not room x e = rw e

too_long : (room : ℕ) (o : List ℕ) → room < length o → bad ≡ fit room (of o)
too_long room o h = rw (lt-leb _ _ h)

pub fit-long : (room : ℕ) (p : List ℕ) (x : Octets) → room < length p → bad ≡ fit room (behind_all p x)
fit-long room p none h = refl
fit-long room p (of r) h = too_long room (p ++ r) (omega (arith, length-append p r))

abbrev Halves : ℕ → Octets → Type 0
Halves n (of o) = length o + length o ≡ n
Halves n none = Unit {0}

halves-more : (v n : ℕ) (b : Bool) (x : Octets) → Halves n x → Halves (suc (suc n)) (cond b none (behind_all (v ∷ []) x))
halves-more v n true x h = tt
halves-more v n false (of o) h = omega arith
halves-more v n false none h = tt

halves : (s : List ℕ) → Halves (length s) (pairs_of s)
unfolding pairs_of
halves [] = omega arith
halves (a ∷ []) = tt
halves (a ∷ b ∷ s) = halves-more (pair_of a b) (length s) (ltb 255 (pair_of a b)) (pairs_of s) (halves s)

fit-half : (room n : ℕ) (x : Octets) → Halves n x → room < n / 2 → bad ≡ fit room x
fit-half room n none h g = refl
fit-half room n (of o) h g = too_long room o (omega arith)

module _ (s d : List ℕ) where
  pub pairs-short : length d < length s / 2 → Decodes s d (pairs_of s) None d
  pairs-short h = record { says = fit-half (length d) (length s) (pairs_of s) (halves s) h; behind = refl }

  pub pairs_start : pairs_of s ≡ behind_all (take 0 d) (pairs_of (drop 0 s))
  pairs_start = behind-none (pairs_of s)

module _ (s d d₀ : List ℕ) (n i : ℕ) (half : n ≡ length s / 2) (sized : length d ≡ length d₀) (rest : drop n d ≡ drop n d₀)
    (inv : pairs_of s ≡ behind_all (take i d) (pairs_of (drop (2 * i) s))) where
  -- d afterwards, where it is not written any more
  left : (r : Option ℕ) → decoded_as r d ≡ fit (length d₀) (pairs_of s) → Decodes s d₀ (pairs_of s) r d
  left r e = record { says = e; behind = rw (← half) rest }

  module _ (more : i < n) where
    next : (v : ℕ) → v ≡ pair_of (get_or s (2 * i) 0) (get_or s (2 * i + 1) 0)
        → pairs_of (drop (2 * i) s) ≡ cond (ltb 255 v) none (behind_all (v ∷ []) (pairs_of (drop (2 * (i + 1)) s)))
    unfolding pairs_of
    next v v-is =
        let a : 2 * i < length s = omega arith in
        let b : suc (2 * i) < length s = omega arith in
        let e : 2 * (i + 1) ≡ suc (suc (2 * i)) = omega arith in
        rw (drop-cons s (2 * i) 0 a, drop-cons s (suc (2 * i)) 0 b, e, v-is, add-one)

    pub pairs-bad : None ≡ below 256 (pair_of (get_or s (2 * i) 0) (get_or s (2 * i + 1) 0)) → Decodes s d₀ (pairs_of s) None d
    pairs-bad h =
        let w = below-none 256 _ h in
        let u : 255 < pair_of (get_or s (2 * i) 0) (get_or s (2 * i + 1) 0) = omega arith in
        left None (fits_not (length d₀) (pairs_of s) (inv ∙ rw (next _ refl, lt-ltb _ _ u)))

    pub pairs-more : (v : ℕ) → Some v ≡ below 256 (pair_of (get_or s (2 * i) 0) (get_or s (2 * i + 1) 0)) → n ≤ length d
        → pairs_of s ≡ behind_all (take (i + 1) (set d i v)) (pairs_of (drop (2 * (i + 1)) s))
    pairs-more v h enough =
        let a : i < length d = omega arith in
        let w = below-some 256 _ v h in
        let u : v ≤ 255 = omega arith in
        inv ∙ rw (next v w.0, le-ltb _ _ u) (stored d i v (pairs_of (drop (2 * (i + 1)) s)) a)

  pub pairs-behind : i < n → (v : ℕ) → drop n (set d i v) ≡ drop n d₀
  pairs-behind more v = drop-set-lt n d i v more ∙ rest

  module _ (low : i ≤ n) (high : n ≤ i) where
    pub pairs-odd : length s % 2 ≡ 1 → Decodes s d₀ (pairs_of s) None d
    unfolding pairs_of
    pairs-odd h =
        let a : 2 * i < length s = omega arith in
        let b : length s ≤ suc (2 * i) = omega arith in
        left None (fits_not (length d₀) (pairs_of s) (inv ∙ rw (drop-cons s (2 * i) 0 a, drop_of_length-le s b)))

    pub pairs-even : (length s % 2 ≡ 1 → ⊥) → n ≤ length d → Decodes s d₀ (pairs_of s) (Some n) d
    unfolding pairs_of
    pairs-even h enough =
        let a : length s ≤ 2 * i = omega arith in
        let e : n ≡ i = omega arith in
        left (Some n)
        (fits (length d₀) n (pairs_of s) (take n d) (inv ∙ rw (drop_of_length-le s a, e) (ap of (append-nil (take i d))))
        (length-take-le n d enough) (omega arith))

module _ (s places o : List ℕ) (i : ℕ) (x : Octets) (inv : x ≡ behind_all (take i o) (octets_at s (drop i places))) where
  module _ (more : i < 16) (sized : length places ≡ 16) where
    place-next : (v : ℕ) → v ≡ pair_of (get_or s (get_or places i 0) 0) (get_or s (get_or places i 0 + 1) 0)
        → octets_at s (drop i places) ≡ cond (ltb 255 v) none (behind_all (v ∷ []) (octets_at s (drop (i + 1) places)))
    unfolding octets_at
    place-next v v-is = let a : i < length places = omega arith in rw (drop-cons places i 0 a, v-is, add-one i)

    pub at-bad : None ≡ below 256 (pair_of (get_or s (get_or places i 0) 0) (get_or s (get_or places i 0 + 1) 0)) → none ≡ x
    at-bad h =
        let w = below-none 256 _ h in
        let u : 255 < pair_of (get_or s (get_or places i 0) 0) (get_or s (get_or places i 0 + 1) 0) = omega arith in
        sym (inv ∙ rw (place-next _ refl, lt-ltb _ _ u))

    pub at_more : (v : ℕ) → Some v ≡ below 256 (pair_of (get_or s (get_or places i 0) 0) (get_or s (get_or places i 0 + 1) 0)) → length o ≡ 16
        → x ≡ behind_all (take (i + 1) (set o i v)) (octets_at s (drop (i + 1) places))
    at_more v h room =
        let a : i < length o = omega arith in
        let w = below-some 256 _ v h in
        let u : v ≤ 255 = omega arith in
        inv ∙ rw (place-next v w.0, le-ltb _ _ u) (stored o i v (octets_at s (drop (i + 1) places)) a)

  pub at-end : 16 ≤ i → length places ≡ 16 → length o ≡ 16 → of o ≡ x
  unfolding octets_at
  at-end h p q =
      let a : length places ≤ i = omega arith in
      let b : length o ≤ i = omega arith in
      sym (inv ∙ rw (drop_of_length-le places a, take_all i o b) (ap of (append-nil o)))

pub at-start : (s places o : List ℕ) → octets_at s places ≡ behind_all (take 0 o) (octets_at s (drop 0 places))
at-start s places o = behind-none (octets_at s places)

pub ruleset pair-octets = (
  pairs-short,
  pairs_start,
  pairs-bad,
  pairs-more,
  pairs-behind,
  pairs-odd,
  pairs-even,
)

pub ruleset ids = (at-bad, at_more, at-end, at-start)
