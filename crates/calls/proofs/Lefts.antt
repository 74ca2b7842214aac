-- The schemes left at an end, by the places left: how many, the first of them, and the reply's list as one set.
-- Assumes nothing.
use Prim.Native.Nat.{ℕ, zero, suc, ◌+◌, ◌*◌, ◌/◌, ◌%◌, ◌^◌, ◌≤◌, ◌<◌}
use mathlib.Core.Path.{◌≡◌, refl, sym, ap, ◌∙◌}
use mathlib.Core.Bool.{Bool, true, false, cond, not, ◌&&◌, ◌||◌}
use mathlib.Core.List.{List, [], ◌∷◌}
use native.Mathlib.Nat.{pow-suc}
use native.Mathlib.Omega.{arith}
use lib.ListN.{length}
use lib.Dec.{ltb}
use borrow.Author.Tests.{ltb-true}
use Rattle.octets.proofs.Bools.{no_true, and_l, and_r}
use Rattle.octets.specs.Octets.{octets, same_octets}
use Rattle.message.specs.Show.{ids_at}
use Rattle.message.proofs.Ids.{length_ids, id-at}
use Rattle.schemes.specs.Lists.{Id, bit}
use Rattle.schemes.specs.Sets.{left, open_places, named, kept_below}
use Rattle.schemes.specs.Answers.{places_from, left_places, left_of}
use Rattle.schemes.specs.declared.Left.{Left}
use Rattle.schemes.proofs.Places.{lowest, less, less-step, left_below, named-left}
use Rattle.schemes.proofs.Limits.{AllBelow}
use Rattle.conversation.specs.Writing.{some_left, first_or, starts_with}
use Rattle.conversation.specs.Choosing.{first_place}

-- ---- every place left is one of the list
places-inside : (k j n c m : ℕ) → k + j ≤ n → AllBelow n (open_places (places_from k j) c m)
unfolding open_places places_from
places-inside k zero n c m h = tt
places-inside k (suc j) n c m h = go (bit c 0 && not (bit m k)) (places-inside (suc k) j n (c / 2) m (omega arith)) where
  go : (b : Bool) → AllBelow n (open_places (places_from (suc k) j) (c / 2) m)
      → AllBelow n (cond b (k ∷ open_places (places_from (suc k) j) (c / 2) m) (open_places (places_from (suc k) j) (c / 2) m))
  go true i = (omega arith, i)
  go false i = i

pub kept-inside : (n : ℕ) (ks : List ℕ) (c m : ℕ) → kept_below n ks c ≡ true → AllBelow n (open_places ks c m)
unfolding open_places kept_below
kept-inside n [] c m h = tt
kept-inside n (k ∷ ks) c m h =
    go (bit c 0) (not (bit m k)) (and_l (not (bit c 0) || ltb k n) (kept_below n ks (c / 2)) h)
    (kept-inside n ks (c / 2) m (and_r (not (bit c 0) || ltb k n) (kept_below n ks (c / 2)) h))
  where
    go : (a b : Bool) → (not a || ltb k n) ≡ true → AllBelow n (open_places ks (c / 2) m)
        → AllBelow n (cond (a && b) (k ∷ open_places ks (c / 2) m) (open_places ks (c / 2) m))
    go true true e i = (ltb-true k n e, i)
    go true false e i = i
    go false b e i = i

-- ---- the answer of the choice, at either end
module _ (list : List ℕ) (n : ℕ) (z : Left) where
  count-named : (ks : List ℕ) → z ≡ left_of ks → z.left ≡ length (named (ids_at n list) ks)
  unfolding left_of
  count-named ks e = ap (λ (y : Left). y.left) e ∙ go ks where
    go : (js : List ℕ) → length js ≡ length (named (ids_at n list) js)
    go [] = refl
    go (j ∷ js) = ap suc (go js)

  some-named : (l : List Id) → (length l ≡ 0 → ⊥) → true ≡ some_left l
  some-named [] h = absurd (h refl)
  some-named (x ∷ l) h = refl

  none_named : (l : List Id) → length l ≡ 0 → false ≡ some_left l
  none_named [] h = refl
  none_named (x ∷ l) h = absurd (omega arith)

  -- the first, where there is one
  first-named : (ks : List ℕ) → z ≡ left_of ks → AllBelow n ks → some_left (named (ids_at n list) ks) ≡ true
      → (z.place < n) × ((octets 16 list (16 * z.place) ≡ first_or (named (ids_at n list) ks)) × (z.place ≡ first_place ks))
  unfolding left_of
  first-named [] e i s = no_true s
  first-named (k ∷ ks) e i s =
      let p : z.place ≡ k = ap (λ (y : Left). y.place) e in
      let h : z.place < n = rw p i.0 in
      (h, (sym (id-at n list z.place h) ∙ rw p, p))

  starts-named : (l : List Id) (id : Id) → some_left l ≡ true → starts_with l id ≡ same_octets id (first_or l)
  starts-named [] id s = no_true s
  starts-named (x ∷ l) id s = refl

  -- ---- the initiator's
  module _ (ks : List ℕ) (is : z ≡ left_of ks) where
    pub open_none : z.left ≡ 0 → false ≡ some_left (named (ids_at n list) ks)
    open_none h = none_named (named (ids_at n list) ks) (sym (count-named ks is) ∙ h)

    pub open-some : (z.left ≡ 0 → ⊥) → true ≡ some_left (named (ids_at n list) ks)
    open-some h = some-named (named (ids_at n list) ks) (λ e. h (count-named ks is ∙ e))

    pub open-count : z.left ≡ length (named (ids_at n list) ks)
    open-count = count-named ks is

    pub open-first : AllBelow n ks → some_left (named (ids_at n list) ks) ≡ true
        → (z.place < n) × ((octets 16 list (16 * z.place) ≡ first_or (named (ids_at n list) ks)) × (z.place ≡ first_place ks))
    open-first = first-named ks is

  -- ---- the acceptor's
  module _ (few : n ≤ 16) (c m : ℕ) (bound : c < 2 ^ n) (is : z ≡ left_of (left_places 16 c m)) where
    own_is : z ≡ left_of (left_places n c m)
    own_is = is ∙ ap left_of (left_below n c m few bound)

    all_left : named (ids_at n list) (left_places n c m) ≡ left (ids_at n list) c m
    all_left = rw length_ids at (named-left (ids_at n list) c m)

    pub own-count : z.left ≡ length (left (ids_at n list) c m)
    own-count = count-named (left_places n c m) own_is ∙ ap length all_left

    pub own-none : z.left ≡ 0 → false ≡ some_left (left (ids_at n list) c m)
    own-none h = none_named (left (ids_at n list) c m) (sym own-count ∙ h)

    pub own-some : (z.left ≡ 0 → ⊥) → true ≡ some_left (left (ids_at n list) c m)
    own-some h = some-named (left (ids_at n list) c m) (λ e. h (own-count ∙ e))

    module _ (some : some_left (left (ids_at n list) c m) ≡ true) where
      found : (z.place < n)
          × ((octets 16 list (16 * z.place) ≡ first_or (named (ids_at n list) (left_places n c m))) × (z.place ≡ first_place (left_places n c m)))
      found = first-named (left_places n c m) own_is (places-inside 0 n n c m (omega arith)) (rw all_left some)

      pub own-place : z.place < n
      own-place = found.0

      pub own_first : octets 16 list (16 * z.place) ≡ first_or (left (ids_at n list) c m)
      own_first = found.1.0 ∙ ap first_or all_left

      pub own-starts : (id : Id) → starts_with (left (ids_at n list) c m) id ≡ same_octets id (octets 16 list (16 * z.place))
      own-starts id = starts-named (left (ids_at n list) c m) id some ∙ ap (same_octets id) (sym own_first)

-- ---- a set less the marks, as one set
pub left_less : (n : ℕ) (l : List Id) (c m : ℕ) → length l ≤ n → m < 2 ^ n → left l (less n c m) 0 ≡ left l c m
unfolding left
left_less n [] c m h g = refl
left_less zero (x ∷ l) c m h g = absurd (omega arith)
left_less (suc n) (x ∷ l) c m h g =
    let p : 2 ^ suc n ≡ 2 ^ n * 2 = pow-suc 2 n in
    let f : m / 2 < 2 ^ n = omega arith in
    let a : m ≡ cond (bit m 0) 1 0 + 2 * (m / 2) = omega (arith, lowest m) in
    let e : less (suc n) c m ≡ less n (c / 2) (m / 2) * 2 + cond (bit c 0 && not (bit m 0)) 1 0 =
    ap (λ (k : ℕ). less (suc n) c k) a ∙ less-step n c (m / 2) (bit m 0) f in
    rw e (go (bit c 0 && not (bit m 0)) (less n (c / 2) (m / 2)) (left_less n l (c / 2) (m / 2) (omega arith) f))
  where
    go : (b : Bool) (q : ℕ) → left l q 0 ≡ left l (c / 2) (m / 2)
        → cond (bit (q * 2 + cond b 1 0) 0 && true) (x ∷ left l ((q * 2 + cond b 1 0) / 2) 0) (left l ((q * 2 + cond b 1 0) / 2) 0)
        ≡ cond b (x ∷ left l (c / 2) (m / 2)) (left l (c / 2) (m / 2))
    go true q i =
        let u : (q * 2 + 1) % 2 ≡ 1 = omega arith in
        let v : (q * 2 + 1) / 2 ≡ q = omega arith in
        rw (u, v, i)
    go false q i =
        let u : (q * 2 + 0) % 2 ≡ 0 = omega arith in
        let v : (q * 2 + 0) / 2 ≡ q = omega arith in
        rw (u, v, i)
