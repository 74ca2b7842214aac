-- Lists of ids in octets: what is left of a list from a place on, and one turn of each loop over places, in the words of the code.
-- Assumes nothing.
use Prim.Native.Nat.{ℕ, suc, ◌+◌, ◌*◌, ◌-◌, ◌/◌, ◌%◌, ◌≤◌, ◌<◌}
use mathlib.Core.Path.{◌≡◌, refl, sym, ap, ◌∙◌}
use mathlib.Core.Bool.{Bool, true, false, cond}
use mathlib.Core.Logic.{◌⊎◌, inl, inr}
use mathlib.Core.List.{List, [], ◌∷◌}
use native.Mathlib.Nat.{sub-zero}
use native.Mathlib.Omega.{arith}
use lib.ListN.{length, take, drop}
use lib.Seq.{drop-drop}
use lib.Dec.{eqb, ltb, leb-suc-suc}
use borrow.Author.Tests.{eqb-true, eqb-false, eq-eqb, ne_eqb, le-leb, lt-leb, lt-ltb}
use Rattle.octets.proofs.Bools.{which}
use Rattle.octets.proofs.Slices.{tail_all}
use Rattle.octets.specs.Octets.{octets, same_octets, same_id}
use Rattle.octets.proofs.Same.{same-eq, first-no-id, ids-start}
use Rattle.message.specs.Show.{ids_at}
use Rattle.message.proofs.Ids.{length_ids}
use Rattle.schemes.specs.Lists.{Id, mem, place, distinct, list_ok}

-- beside an id of 16 octets, being the same id is having the same octets
pub same-as : (a b : List ℕ) → length b ≡ 16 → same_id a b ≡ same_octets a b
same-as a b h = go (which (eqb (length a) 16)) where
  other : (length a ≡ 16 → ⊥) → (same_octets a b ≡ true) ⊎ (same_octets a b ≡ false) → false ≡ same_octets a b
  other u (inl e) = absurd (u (ap length (same-eq a b e) ∙ h))
  other u (inr e) = sym e

  go : (eqb (length a) 16 ≡ true) ⊎ (eqb (length a) 16 ≡ false) → same_id a b ≡ same_octets a b
  go (inl e) = ids-start a b (eqb-true _ _ e)
  go (inr e) =
      let u : length a ≡ 16 → ⊥ = eqb-false _ _ e in
      sym (first-no-id a b u) ∙ other u (which (same_octets a b))

-- ---- what is left of the n ids of s from place k on
abbrev pub rest : ℕ → List ℕ → ℕ → List Id
rest n s k = ids_at (n - k) (drop (k * 16) s)

pub rest-start : (n : ℕ) (s : List ℕ) → ids_at n s ≡ rest n s 0
rest-start n s = rw sub-zero

pub rest-step : (n : ℕ) (s : List ℕ) (k : ℕ) → k < n → rest n s k ≡ octets 16 s (k * 16) ∷ rest n s (k + 1)
unfolding ids_at
rest-step n s k h =
    let e : n - k ≡ suc (n - (k + 1)) = omega arith in
    let f : k * 16 + 16 ≡ (k + 1) * 16 = omega arith in
    simp (e, drop-drop, f)

pub rest_end : (n : ℕ) (s : List ℕ) (k : ℕ) → n ≤ k → rest n s k ≡ []
unfolding ids_at
rest_end n s k h = let e : n - k ≡ 0 = omega arith in rw e

-- ---- a scheme stands in a list where its place lies inside
pub mem-place : (s : Id) (l : List Id) → mem s l ≡ ltb (place l s) (length l)
unfolding mem place
mem-place s [] = refl
mem-place s (x ∷ l) = go (same_octets s x) (mem-place s l) where
  go : (b : Bool) → mem s l ≡ ltb (place l s) (length l) → cond b true (mem s l) ≡ ltb (cond b 0 (suc (place l s))) (suc (length l))
  go true e = sym (lt-ltb 0 (suc (length l)) (omega arith))
  go false e = e ∙ sym (leb-suc-suc (suc (place l s)) (length l))

module _ (id s : List ℕ) (n p : ℕ) (p-is : p ≡ place (ids_at n s) id) where
  listed : mem id (ids_at n s) ≡ ltb p n
  listed = mem-place id (ids_at n s) ∙ rw (length_ids, p-is)

  pub has-test : ltb p n ≡ mem id (ids_at n s)
  has-test = sym listed

-- ---- one turn of the test for repeats
module _ (s : List ℕ) (n : ℕ) where
  pub distinct-start : distinct (ids_at n s) ≡ distinct (rest n s 0)
  distinct-start = rw (rest-start n s)

  module _ (k : ℕ) (x : Bool) (inv : x ≡ distinct (rest n s k)) where
    pub distinct-end : n ≤ k → true ≡ x
    unfolding distinct
    distinct-end h = sym (inv ∙ rw (rest_end n s k h))

    module _ (more : k < n) (id behind : List ℕ) (front : id ≡ take 16 (take (length s - k * 16) (drop (k * 16) s)))
        (back : behind ≡ drop 16 (take (length s - k * 16) (drop (k * 16) s))) (b : Bool) (b-is : b ≡ mem id (ids_at (n - k - 1) behind))
      where
        known : mem (octets 16 s (k * 16)) (rest n s (k + 1)) ≡ b
        known =
            let f : k * 16 + 16 ≡ (k + 1) * 16 = omega arith in
            let g : n - k - 1 ≡ n - (k + 1) = omega arith in
            sym (b-is ∙ rw (front, back, g) (simp (tail_all, drop-drop, f)))

        pub distinct-repeat : b ≡ true → false ≡ x
        unfolding distinct
        distinct-repeat t = sym (inv ∙ simp (rest-step n s k more, known, t))

        pub distinct_more : b ≡ false → x ≡ distinct (rest n s (k + 1))
        unfolding distinct
        distinct_more t = inv ∙ simp (rest-step n s k more, known, t)

-- ---- the answers about an own list
module _ (own : List ℕ) where
  pub list-refused : (length own % 16 ≡ 0 → ⊥)
      ⊎ (((length own % 16 ≡ 0) × (length own / 16 < 1)) ⊎ ((length own % 16 ≡ 0) × (1 ≤ length own / 16) × (16 < length own / 16)))
      → false ≡ list_ok own
  unfolding list_ok
  list-refused (inl h) = rw (ne_eqb _ _ h)
  list-refused (inr (inl (even, h))) = simp (eq-eqb _ _ even, length_ids, lt-leb _ _ h)
  list-refused (inr (inr (even, some, h))) = simp (eq-eqb _ _ even, length_ids, le-leb _ _ some, lt-leb _ _ h)

  pub list-judged : length own % 16 ≡ 0 → 1 ≤ length own / 16 → length own / 16 ≤ 16
      → (b : Bool) → b ≡ distinct (ids_at (length own / 16) own) → b ≡ list_ok own
  unfolding list_ok
  list-judged even some h b e = e ∙ simp (eq-eqb _ _ even, length_ids, le-leb _ _ some, le-leb _ _ h)

pub ruleset repeats = (distinct-start, distinct-end)
