-- Schemes gathered into octets: one scheme more, and one turn of each loop, in the words of the code.
-- Assumes nothing.
use Prim.Native.Nat.{ℕ, zero, suc, ◌+◌, ◌*◌, ◌-◌, ◌/◌, ◌≤◌, ◌<◌}
use mathlib.Core.Path.{◌≡◌, refl, sym, ap, ◌∙◌}
use mathlib.Core.Bool.{Bool, true, false, cond, not, ◌&&◌}
use mathlib.Core.List.{List, [], ◌∷◌, ◌++◌, append_assoc, append-nil}
use native.Mathlib.Nat.{mul_comm}
use native.Mathlib.Numerals.{add-one}
use native.Mathlib.Omega.{arith}
use lib.ListN.{length, take, drop, replicate, length-append, length-take, length-drop, length-replicate, replicate-append-replicate}
use lib.Seq.{paste, take_all, take_at, drop_at, drop-append-add}
use Rattle.octets.specs.Octets.{octets}
use Rattle.message.specs.Show.{ids_at}
use Rattle.message.proofs.Ids.{length_ids}
use Rattle.schemes.specs.declared.Schemes.{Schemes}
use Rattle.schemes.specs.Lists.{Id, bit, join_ids}
use Rattle.schemes.specs.Sets.{left, pad_to}
use Rattle.schemes.specs.Answers.{schemes_of}
use Rattle.schemes.proofs.Mentions.{ids-snoc}

drop-zeros : (k n : ℕ) → k ≤ n → drop k (replicate {A = ℕ} n 0) ≡ replicate (n - k) 0
drop-zeros k n h =
    let e : n ≡ k + (n - k) = omega arith in
    ap (λ (i : ℕ). drop k (replicate {A = ℕ} i 0)) e ∙ ap (drop k) (sym (replicate-append-replicate k (n - k) 0))
    ∙ drop_at (replicate k 0) (replicate (n - k) 0) k (length-replicate k 0)

-- what is copied behind a list is its end, before the zeros
pub paste-pad : (n : ℕ) (l id : List ℕ) (at k : ℕ) → length l ≡ at → length id ≡ k → at + k ≤ n → paste (pad_to n l) at id k ≡ pad_to n (l ++ id)
paste-pad n l id at k e f h =
    let z : List ℕ = replicate (n - length l) 0 in
    let a : take at (l ++ z) ≡ l = take_at l z at e in
    let b : take k id ≡ id = take_all k id (omega arith) in
    let c : drop (at + k) (l ++ z) ≡ drop k z = rw (← e) (drop-append-add l z k) in
    let g : drop k z ≡ replicate (n - length l - k) 0 = drop-zeros k (n - length l) (omega arith) in
    let i : n - length l - k ≡ n - length (l ++ id) = simp length-append (omega arith) in
    rw (a, b, c, g, i)

-- ---- one scheme more
join-snoc : (l : List Id) (x : Id) → join_ids (l ++ (x ∷ [])) ≡ join_ids l ++ x
join-snoc [] x = append-nil x
join-snoc (y ∷ l) x = rw (join-snoc l x) (sym (append_assoc y (join_ids l) x))

left-snoc : (l : List Id) (x : Id) (c m : ℕ) → left (l ++ (x ∷ [])) c m ≡ left l c m ++ cond (bit c (length l) && not (bit m (length l))) (x ∷ []) []
unfolding left
left-snoc [] x c m = refl
left-snoc (y ∷ l) x c m = rw (left-snoc l x (c / 2) (m / 2)) (go (bit c 0 && not (bit m 0)) (left l (c / 2) (m / 2)) _) where
  go : (d : Bool) (s t : List Id) → cond d (y ∷ (s ++ t)) (s ++ t) ≡ cond d (y ∷ s) s ++ t
  go true s t = refl
  go false s t = refl

pub left-few : (l : List Id) (c m : ℕ) → length (left l c m) ≤ length l
unfolding left
left-few [] c m = omega arith
left-few (x ∷ l) c m = go (bit c 0 && not (bit m 0)) (left-few l (c / 2) (m / 2)) where
  go : (d : Bool) → length (left l (c / 2) (m / 2)) ≤ length l
      → length (cond d (x ∷ left l (c / 2) (m / 2)) (left l (c / 2) (m / 2))) ≤ suc (length l)
  go true h = omega arith
  go false h = omega arith

-- ids of a list that has their octets are 16 octets long
pub join-length : (n : ℕ) (s : List ℕ) (c m : ℕ) → n * 16 ≤ length s → length (join_ids (left (ids_at n s) c m)) ≡ 16 * length (left (ids_at n s) c m)
unfolding left ids_at
join-length zero s c m h = refl
join-length (suc n) s c m h =
    let e : length (take 16 s) ≡ 16 = simp length-take (omega arith) in
    let i = join-length n (drop 16 s) (c / 2) (m / 2) (simp length-drop (omega arith)) in
    go (bit c 0 && not (bit m 0)) (left (ids_at n (drop 16 s)) (c / 2) (m / 2)) e i
  where
    go : (d : Bool) (l : List Id) → length (take 16 s) ≡ 16 → length (join_ids l) ≡ 16 * length l
        → length (join_ids (cond d (take 16 s ∷ l) l)) ≡ 16 * length (cond d (take 16 s ∷ l) l)
    go true l e i = simp length-append (omega arith)
    go false l e i = i

pub bit-zero : (k : ℕ) → bit 0 k ≡ false
bit-zero zero = refl
bit-zero (suc k) = bit-zero k

-- ---- one turn of the loop over the own list
module _ (list : List ℕ) (c : ℕ) where
  pub gather-start : ◌≡◌ {A = Schemes} (record { octets = replicate 256 0; count = 0 }) (schemes_of (left (ids_at 0 list) c 0))
  unfolding schemes_of left ids_at
  gather-start = refl

  module _ (k : ℕ) (s : Schemes) (inv : s ≡ schemes_of (left (ids_at k list) c 0)) where
    pub gather-end : (n : ℕ) → k ≤ n → n ≤ k → s ≡ schemes_of (left (ids_at n list) c 0)
    gather-end n g h = let e : k ≡ n = omega arith in rw e at inv

    counted : s.count ≡ length (left (ids_at k list) c 0)
    unfolding schemes_of
    counted = ap (λ (x : Schemes). x.count) inv

    pub gather-room : k < 16 → s.count < 16
    gather-room h = omega (arith, counted, left-few (ids_at k list) c 0, length_ids k list)

    module _ (b : Bool) (b-is : b ≡ bit c k) where
      one_more_lem : left (ids_at (k + 1) list) c 0 ≡ left (ids_at k list) c 0 ++ cond b (octets 16 list (k * 16) ∷ []) []
      one_more_lem =
          let p = left-snoc (ids_at k list) (octets 16 list (k * 16)) c 0 in
          let q : bit c k && not (bit 0 k) ≡ b = rw (bit-zero, ← b-is) (go b) in
          rw (add-one, ids-snoc) (p ∙ rw (length_ids, q))
        where
          go : (x : Bool) → (x && true) ≡ x
          go true = refl
          go false = refl

      pub gather-skip : b ≡ false → s ≡ schemes_of (left (ids_at (k + 1) list) c 0)
      gather-skip t = inv ∙ ap schemes_of (sym (one_more_lem ∙ rw t (append-nil (left (ids_at k list) c 0))))

      pub gather-take : b ≡ true → length list ≡ 256 → k < 16 → (id : List ℕ) → id ≡ octets 16 list (16 * k) → (r : Schemes)
          → r ≡ record { octets = paste s.octets (16 * s.count) id 16; count = s.count + 1 }
          → r ≡ schemes_of (left (ids_at (k + 1) list) c 0)
      unfolding schemes_of
      gather-take t sized low id id-is r r-is =
          let l : List Id = left (ids_at k list) c 0 in
          let x : Id = octets 16 list (k * 16) in
          let i : id ≡ x = id-is ∙ rw (mul_comm 16 k) in
          let f : length x ≡ 16 = simp (length-take, length-drop) (omega arith) in
          let g : length (join_ids l) ≡ 16 * length l = join-length k list c 0 (omega arith) in
          let few : length l ≤ k = omega (arith, left-few (ids_at k list) c 0, length_ids k list) in
          let o : s.octets ≡ pad_to 256 (join_ids l) = ap (λ (y : Schemes). y.octets) inv in
          let a : paste s.octets (16 * s.count) id 16 ≡ pad_to 256 (join_ids (l ++ (x ∷ []))) =
          rw (o, counted, i, join-snoc l x) (paste-pad 256 (join_ids l) x (16 * length l) 16 g f (omega arith)) in
          let e : s.count + 1 ≡ length (l ++ (x ∷ [])) = simp length-append (omega (arith, counted)) in
          let w : left (ids_at (k + 1) list) c 0 ≡ l ++ (x ∷ []) = one_more_lem ∙ rw t in
          r-is ∙ rw (a, e, w)

pub ruleset gatherings = (gather-start, gather-end, gather-room, gather-skip, gather-take)

-- ---- for callers: the gathered octets are the schemes', joined
pub gathered-octets : (n : ℕ) (s : List ℕ) (c m : ℕ) → n * 16 ≤ length s
    → take (16 * (schemes_of (left (ids_at n s) c m)).count) (schemes_of (left (ids_at n s) c m)).octets ≡ join_ids (left (ids_at n s) c m)
unfolding schemes_of
gathered-octets n s c m h = take_at (join_ids (left (ids_at n s) c m)) _ _ (join-length n s c m h)
