-- What is handed over, as a list of items: its array and its values.
-- Assumes nothing.
use Prim.Native.Nat.{ℕ, zero, suc, ◌+◌, ◌*◌, ◌≤◌}
use mathlib.Core.Path.{◌≡◌, refl, sym, ap, ◌∙◌}
use mathlib.Core.Bool.{Bool, true, false, not, ◌&&◌}
use mathlib.Core.Logic.{inl, inr}
use mathlib.Core.List.{List, [], ◌∷◌, ◌++◌, append-nil}
use native.Mathlib.Omega.{arith}
use lib.ListN.{length, get_or, take, drop, length-append, length-drop}
use lib.Seq.{length-take-le, take-length, take-add, drop-drop}
use lib.Dec.{leb, eqb}
use borrow.Author.Tests.{le-leb, leb-true, eqb-true}
use Rattle.octets.specs.Octets.{signed32, negative}
use Rattle.octets.proofs.Bools.{both, which}
use Rattle.put.specs.Put.{joined, Written}
use Rattle.put.proofs.Laws.{wrote, step, done}
use Rattle.elements.specs.declared.Elements.{Elements}
use Rattle.elements.specs.Elements.{Item, element_fields, array_of, item_values, item_octets, items_size, small_values, items_fit, items_from, items_of, sum_from, small_from, array_from, elements_fit, handed_size, ordinary, ordinary_from, HandedWhole, TypesAlone}

module _ (ts ns v : List ℕ) where
  pub length_from : (n i at : ℕ) → length (items_from n i at ts ns v) ≡ n
  length_from zero i at = refl
  length_from (suc n) i at = ap suc (length_from n (i + 1) (at + get_or ns i 0))

  -- a value that lies inside the lent octets has its size
  inside : (n i at : ℕ) → at + sum_from (suc n) i ns ≤ length v → length (take (get_or ns i 0) (drop at v)) ≡ get_or ns i 0
  unfolding sum_from
  inside n i at h = length-take-le (get_or ns i 0) (drop at v) (omega (arith, length-drop at v))

  pub array-from : (n i at p : ℕ) → at + sum_from n i ns ≤ length v → array_of p (items_from n i at ts ns v) ≡ array_from n i p ts ns
  unfolding array_from sum_from
  array-from zero i at p h = refl
  array-from (suc n) i at p h =
      rw (inside n i at h)
      (ap (λ (l : List ℕ). joined (element_fields (get_or ts i 0) p (get_or ns i 0)) ++ l)
      (array-from n (i + 1) (at + get_or ns i 0) (p + get_or ns i 0) (omega arith)))

  pub values-from : (n i at : ℕ) → joined (item_values (items_from n i at ts ns v)) ≡ take (sum_from n i ns) (drop at v)
  unfolding sum_from
  values-from zero i at = refl
  values-from (suc n) i at =
      ap (λ (l : List ℕ). take (get_or ns i 0) (drop at v) ++ l)
      (values-from n (i + 1) (at + get_or ns i 0) ∙ ap (take (sum_from n (i + 1) ns)) (sym (drop-drop (get_or ns i 0) at v)))
      ∙ sym (take-add (get_or ns i 0) (sum_from n (i + 1) ns) (drop at v))

  pub small-from : (n i at : ℕ) → at + sum_from n i ns ≤ length v → small_from n i ns ≡ true → small_values (items_from n i at ts ns v) ≡ true
  unfolding small_from sum_from
  small-from zero i at h e = refl
  small-from (suc n) i at h e =
      let b = both (leb (get_or ns i 0) 4096) (small_from n (i + 1) ns) e in
      rw (inside n i at h, b.0) (small-from n (i + 1) (at + get_or ns i 0) (omega arith) b.1)

-- the types alone say whether one is critical
ordinary-from : (n i at : ℕ) (ts ns v : List ℕ) → ordinary_from n i ts ≡ ordinary (items_from n i at ts ns v)
unfolding ordinary_from
ordinary-from zero i at ts ns v = refl
ordinary-from (suc n) i at ts ns v =
    ap (λ (b : Bool). not (negative (signed32 (get_or ts i 0))) && b) (ordinary-from n (i + 1) (at + get_or ns i 0) ts ns v)

pub types-alone : TypesAlone
unfolding items_of
types-alone e v = ordinary-from e.count 0 0 e.types e.sizes v

-- what keeps its limits
pub record Handed (e : Elements) (v : List ℕ) : Type 0 where
  pub few : e.count ≤ 8
  pub count : length (items_of e v) ≡ e.count
  pub values : joined (item_values (items_of e v)) ≡ v
  pub array : (p : ℕ) → array_of p (items_of e v) ≡ array_from e.count 0 p e.types e.sizes
  pub fit : items_fit (items_of e v) ≡ true
  pub sum : sum_from e.count 0 e.sizes ≡ length v
  pub short : length v ≤ 32768

sum-small : (n i : ℕ) (ns : List ℕ) → small_from n i ns ≡ true → sum_from n i ns ≤ 4096 * n
unfolding small_from sum_from
sum-small zero i ns e = omega arith
sum-small (suc n) i ns e =
    let b = both (leb (get_or ns i 0) 4096) (small_from n (i + 1) ns) e in
    let k = sum-small n (i + 1) ns b.1 in
    let m = leb-true (get_or ns i 0) 4096 b.0 in
    omega arith

pub handed : (e : Elements) (v : List ℕ) → elements_fit e v ≡ true → Handed e v
unfolding elements_fit items_of items_fit
handed e v t =
    let a = both (leb e.count 8) (small_from e.count 0 e.sizes && eqb (sum_from e.count 0 e.sizes) (length v)) t in
    let b = both (small_from e.count 0 e.sizes) (eqb (sum_from e.count 0 e.sizes) (length v)) a.1 in
    let few = leb-true e.count 8 a.0 in
    let s : sum_from e.count 0 e.sizes ≡ length v = eqb-true (sum_from e.count 0 e.sizes) (length v) b.1 in
    let k = sum-small e.count 0 e.sizes b.0 in
    let n = length_from e.types e.sizes v e.count 0 0 in
    record {
      few = few;
      count = n;
      values = values-from e.types e.sizes v e.count 0 0 ∙ rw s (take-length v);
      array = λ p. array-from e.types e.sizes v e.count 0 0 p (omega arith);
      fit = rw (n, le-leb _ _ few) (small-from e.types e.sizes v e.count 0 0 (omega arith) b.0);
      sum = s;
      short = omega arith;
    }

pub handed-whole : HandedWhole
handed-whole e v t = let h = handed e v t in (h.count, (h.values, h.fit))

-- the array and the values, put one behind the other
pub items-written : (e : Elements) (v : List ℕ) → elements_fit e v ≡ true → (d : List ℕ) (at : ℕ) (place : ℕ)
    → at + (12 * e.count + length v) ≤ length d
    → (d1 : List ℕ) (a1 : ℕ) → Written d at (12 * e.count) (array_from e.count 0 (place + 12 * e.count) e.types e.sizes) d1 a1
    → (d2 : List ℕ) (a2 : ℕ) → Written d1 a1 (length v) v d2 a2
    → Written d at (12 * e.count + length v) (item_octets place (items_of e v)) d2 a2
unfolding item_octets
items-written e v t d at place room d1 a1 w1 d2 a2 w2 =
    let h = handed e v t in
    let s : array_from e.count 0 (place + 12 * e.count) e.types e.sizes ++ (v ++ []) ≡ item_octets place (items_of e v) =
    rw (h.count, h.array (place + 12 * e.count), h.values, append-nil v) in
    let n = w1.size in
    rw (← s) (wrote (12 * e.count + length v) (step w1 (step w2 done)) (simp (length-append, n, append-nil)) room)

-- how many octets
pub length-array-of : (p : ℕ) (xs : List Item) → length (array_of p xs) ≡ 12 * length xs
length-array-of p [] = refl
length-array-of p (x ∷ xs) = let k = length-array-of (p + length x.value) xs in omega arith

pub length-items : (p : ℕ) (xs : List Item) → length (item_octets p xs) ≡ items_size xs
unfolding item_octets
length-items p xs = simp (length-append, length-array-of (p + 12 * length xs) xs)

-- what the callers need, from the test's answer
module _ (e : Elements) (v : List ℕ) (f : Bool) (f-is : f ≡ elements_fit e v) (fit : f ≡ true) where
  pub fit-given : elements_fit e v ≡ true
  fit-given = sym f-is ∙ fit

  pub few-given : e.count ≤ 8
  few-given = (handed e v fit-given).few

  pub short-given : length v ≤ 32768
  short-given = (handed e v fit-given).short

pub size-given : (e : Elements) (v : List ℕ) → elements_fit e v ≡ true → items_size (items_of e v) ≡ 12 * e.count + length v
size-given e v t = let h = handed e v t in rw (h.count, h.values)

-- the size, in the words of the code
module _ (e : Elements) (v : List ℕ) (f : Bool) (f-is : f ≡ elements_fit e v) where
  pub size_fits : f ≡ true → 12 * e.count + length v ≡ handed_size e v
  unfolding handed_size
  size_fits h = rw (sym f-is ∙ h)

  pub size_none : f ≡ false → 0 ≡ handed_size e v
  unfolding handed_size
  size_none h = rw (sym f-is ∙ h)

pub ruleset sizes = (size_fits, size_none)

pub handed-size : (e : Elements) (v : List ℕ) → elements_fit e v ≡ true → items_size (items_of e v) ≡ handed_size e v
unfolding handed_size
handed-size e v t = size-given e v t ∙ rw t

pub handed-small : (e : Elements) (v : List ℕ) → handed_size e v ≤ 32864
unfolding handed_size
handed-small e v = elim (which (elements_fit e v)) [
  | inl t ↦ rw t (let h = handed e v t in omega (arith, h.few, h.short))
  | inr t ↦ rw t (omega arith)
]

-- the limits bound the size
values-small : (xs : List Item) → small_values xs ≡ true → length (joined (item_values xs)) ≤ 4096 * length xs
values-small [] e = omega arith
values-small (x ∷ xs) e =
    let b = both (leb (length x.value) 4096) (small_values xs) e in
    let k = values-small xs b.1 in
    let m = leb-true (length x.value) 4096 b.0 in
    let l = length-append x.value (joined (item_values xs)) in
    omega arith

pub record Small (xs : List Item) : Type 0 where
  pub few : length xs ≤ 8
  pub size : items_size xs ≤ 32864

pub fit_small : (xs : List Item) → items_fit xs ≡ true → Small xs
unfolding items_fit
fit_small xs e =
    let b = both (leb (length xs) 8) (small_values xs) e in
    let k = values-small xs b.1 in
    let m = leb-true (length xs) 8 b.0 in
    record { few = m; size = omega arith }
