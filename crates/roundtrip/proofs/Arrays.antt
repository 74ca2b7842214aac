-- An array at a place with its values behind it reads back, whatever layout it stands in: its elements, the rule of every value, and what they show.
-- Assumes nothing.
use Prim.Native.Nat.{ℕ, zero, suc, ◌+◌, ◌*◌, ◌/◌, ◌^◌, ◌<◌, ◌≤◌}
use mathlib.Core.Path.{◌≡◌, refl, sym, ap, ◌∙◌}
use mathlib.Core.Bool.{Bool, true, not, ◌&&◌}
use mathlib.Core.List.{List, [], ◌∷◌, ◌++◌}
use native.Mathlib.Omega.{arith}
use lib.ListN.{length, take, drop, length-append}
use lib.Seq.{take_at, drop_at, drop-drop}
use lib.Dec.{ltb}
use borrow.Author.Tests.{le-leb, ltb-true}
use Rattle.octets.proofs.Bools.{both}
use Rattle.octets.specs.Octets.{le, signed32, negative}
use Rattle.vector.specs.declared.Vector.{Vector}
use Rattle.vector.specs.Vector.{keeps_rule, part, shown}
use Rattle.vector.proofs.Rule.{inside-rule, rule-empty}
use Rattle.message.specs.Layout.{Element, element_at, elements_at, elements_of, values_of}
use Rattle.message.specs.Check.{all_keep_rule, none_critical}
use Rattle.message.specs.Show.{nested_of}
use Rattle.put.specs.Put.{octets_of, joined}
use Rattle.elements.specs.Elements.{Item, offset_of, element_fields, array_of, item_values, item_octets, items_size, ordinary}
use Rattle.elements.proofs.Views.{length-array-of}
use Rattle.roundtrip.specs.ReadBack.{types_fit, placed_vector, elements_read, nested_from}
use Rattle.roundtrip.proofs.Fields.{le-drop, le-octets}

-- types of 32 bits
abbrev pub TypesFit : List Item → Type 0
TypesFit [] = Unit {0}
TypesFit (x ∷ xs) = (x.type < 4294967296) × TypesFit xs

pub types-fit : (xs : List Item) → types_fit xs ≡ true → TypesFit xs
types-fit [] e = tt
types-fit (x ∷ xs) e = let b = both (ltb x.type 4294967296) (types_fit xs) e in (ltb-true _ _ b.0, types-fit xs b.1)

-- a vector that stands at a place, or is empty
module _ (size header : ℕ) (p : ℕ) (behind : header ≤ p) where
  pub placed-rule : (len n : ℕ) → p + n * size ≤ len → keeps_rule header len (placed_vector size p n) ≡ true
  unfolding offset_of
  placed-rule len zero h = sym (rule-empty header len (placed_vector size p 0) (omega arith))
  placed-rule len (suc n) h = inside-rule header len (placed_vector size p (suc n)) (record { behind = behind; before = h })

  pub placed-part : (m : List ℕ) (n : ℕ) → part m (placed_vector size p n) ≡ take (n * size) (drop p m)
  unfolding offset_of
  placed-part m zero = let z : 0 * size ≡ 0 = omega arith in rw z
  placed-part m (suc n) = refl

  pub placed-shown : (m : List ℕ) (n : ℕ) → p + n * size ≤ length m → shown header m (placed_vector size p n) ≡ take (n * size) (drop p m)
  unfolding shown
  placed-shown m n h = rw (placed-rule (length m) n h) (placed-part m n)

-- a number n octets behind a place
le-at : (k x : ℕ) (a : List ℕ) (at n : ℕ) (t : List ℕ) → drop n (drop at a) ≡ octets_of k x ++ t → x < 256 ^ k → le k a (at + n) ≡ x
le-at k x a at n t e h = le-drop k a (at + n) ∙ ap (λ (l : List ℕ). le k l 0) (sym (drop-drop n at a) ∙ e) ∙ le-octets k x t h

pub offset-small : (n p : ℕ) → p < 4294967296 → offset_of n p < 4294967296
unfolding offset_of
offset-small zero p h = omega arith
offset-small (suc n) p h = h

-- one element
element-read : (a : List ℕ) (at type q n : ℕ) (t : List ℕ) → drop at a ≡ joined (element_fields type q n) ++ t → type < 4294967296 → q < 4294967296
    → n < 4294967296
    → element_at a at ≡ record { type = type; value = placed_vector 1 q n }
element-read a at type q n t e ht hq hn =
    let x : le 4 a at ≡ type =
    le-drop 4 a at ∙ ap (λ (l : List ℕ). le 4 l 0) e ∙ le-octets 4 type (octets_of 4 (offset_of n q) ++ (octets_of 4 n ++ t)) ht in
    let y : le 4 a (at + 4) ≡ offset_of n q = le-at 4 (offset_of n q) a at 4 (octets_of 4 n ++ t) (ap (drop 4) e) (offset-small n q hq) in
    let z : le 4 a (at + 4 + 4) ≡ n = ap (le 4 a) (omega arith) ∙ le-at 4 n a at 8 t (ap (drop 8) e) hn in
    rw (x, y, z)

-- the elements of an array
elements-at : (xs : List Item) (a : List ℕ) (at q : ℕ) → drop at a ≡ array_of q xs → TypesFit xs → q + length (joined (item_values xs)) < 4294967296
    → elements_at (length xs) a at ≡ elements_read q xs
unfolding elements_at
elements-at [] a at q e t h = refl
elements-at (x ∷ xs) a at q e t h =
    let l = length-append x.value (joined (item_values xs)) in
    let i = elements-at xs a (at + 12) (q + length x.value) (sym (drop-drop 12 at a) ∙ ap (drop 12) e) t.1 (omega arith) in
    let o = element-read a at x.type q (length x.value) (array_of (q + length x.value) xs) e t.0 (omega arith) (omega arith) in
    rw (i, o)

pub elements-of : (xs : List Item) (q : ℕ) → TypesFit xs → q + length (joined (item_values xs)) < 4294967296
    → elements_of (array_of q xs) ≡ elements_read q xs
elements-of xs q t h =
    let k = length-array-of q xs in
    let n : length (array_of q xs) / 12 ≡ length xs = omega arith in
    rw n (elements-at xs (array_of q xs) 0 q refl t h)

-- the rule of every value
pub values-rule : (header len : ℕ) (xs : List Item) (q : ℕ) → header ≤ q → q + length (joined (item_values xs)) ≤ len
    → all_keep_rule header len (values_of (elements_read q xs)) ≡ true
unfolding all_keep_rule
values-rule header len [] q b h = refl
values-rule header len (x ∷ xs) q b h =
    let l = length-append x.value (joined (item_values xs)) in
    rw (placed-rule 1 header q b len (length x.value) (omega arith))
    (values-rule header len xs (q + length x.value) (omega arith) (omega arith))

-- no type is critical
pub critical-read : (xs : List Item) (q : ℕ) → none_critical (elements_read q xs) ≡ ordinary xs
unfolding none_critical
critical-read [] q = refl
critical-read (x ∷ xs) q = ap (λ (b : Bool). not (negative (signed32 x.type)) && b) (critical-read xs (q + length x.value))

-- what the reader hands back of every value: a is what it hands back of the array v
module _ (header : ℕ) (m : List ℕ) (v : Vector) (a : List ℕ) (is : shown header m v ≡ a) where
  pub nested-from : (xs : List Item) (k q : ℕ) → drop (12 * k) a ≡ array_of q xs → length a ≡ 12 * (k + length xs) → drop q m ≡ joined (item_values xs)
      → header ≤ q → q + length (joined (item_values xs)) ≤ length m → TypesFit xs → length m < 4294967296
      → nested_from header m v (length xs) k ≡ item_values xs
  unfolding nested_of
  nested-from [] k q e n d b h t s = refl
  nested-from (x ∷ xs) k q e n d b h t s =
      let l = length-append x.value (joined (item_values xs)) in
      let j : 12 * (k + 1) ≡ 12 * k + 12 = omega arith in
      let f : drop (12 * (k + 1)) a ≡ array_of (q + length x.value) xs =
      ap (λ (j : ℕ). drop j a) j ∙ sym (drop-drop 12 (12 * k) a) ∙ ap (drop 12) e in
      let g : drop (q + length x.value) m ≡ joined (item_values xs) =
      sym (drop-drop (length x.value) q m) ∙ ap (drop (length x.value)) d
      ∙ drop_at x.value (joined (item_values xs)) (length x.value) refl in
      let i = nested-from xs (k + 1) (q + length x.value) f (omega arith) g (omega arith) (omega arith) t.1 s in
      let o = element-read a (12 * k) x.type q (length x.value) (array_of (q + length x.value) xs) e t.0 (omega arith) (omega arith) in
      let r : 12 * k + 12 ≤ length a = omega arith in
      let u : length x.value * 1 ≡ length x.value = omega arith in
      let w : shown header m (placed_vector 1 q (length x.value)) ≡ x.value =
      placed-shown 1 header q b m (length x.value) (omega arith) ∙ ap (λ (j : ℕ). take j (drop q m)) u ∙ ap (take (length x.value)) d
      ∙ take_at x.value (joined (item_values xs)) (length x.value) refl in
      rw i (ap (λ (y : List ℕ). y ∷ item_values xs) (rw (is, le-leb _ _ r) (ap (λ (y : Element). shown header m y.value) o ∙ w)))

-- An array at p with its values behind it, at the end of a message m whose header has `header`: all that reading finds of it.
pub record Reads (header : ℕ) (m : List ℕ) (p : ℕ) (xs : List Item) : Type 0 where
  pub elements : elements_of (part m (placed_vector 12 p (length xs))) ≡ elements_read (p + 12 * length xs) xs
  pub array : keeps_rule header (length m) (placed_vector 12 p (length xs)) ≡ true
  pub rules : all_keep_rule header (length m) (values_of (elements_read (p + 12 * length xs) xs)) ≡ true
  pub shows : nested_from header m (placed_vector 12 p (length xs)) (length xs) 0 ≡ item_values xs

pub array-reads : (header : ℕ) (m : List ℕ) (p : ℕ) (xs : List Item) → header ≤ p → drop p m ≡ item_octets p xs → length m ≡ p + items_size xs
    → length m < 4294967296 → TypesFit xs → Reads header m p xs
unfolding item_octets
array-reads header m p xs b d n s t =
    let q = p + 12 * length xs in
    let k = length-array-of q xs in
    let c : length xs * 12 ≡ 12 * length xs = omega arith in
    let r : p + length xs * 12 ≤ length m = omega arith in
    let a : take (length xs * 12) (drop p m) ≡ array_of q xs =
    ap (take (length xs * 12)) d ∙ take_at (array_of q xs) (joined (item_values xs)) (length xs * 12) (omega arith) in
    let v : drop q m ≡ joined (item_values xs) =
    sym (drop-drop (12 * length xs) p m) ∙ ap (drop (12 * length xs)) d ∙ drop_at (array_of q xs) (joined (item_values xs)) (12 * length xs) k in
    record {
      elements = ap elements_of (placed-part 12 header p b m (length xs) ∙ a) ∙ elements-of xs q t (omega arith);
      array = placed-rule 12 header p b (length m) (length xs) r;
      rules = values-rule header (length m) xs q (omega arith) (omega arith);
      shows =
          nested-from header m (placed_vector 12 p (length xs)) (array_of q xs) (placed-shown 12 header p b m (length xs) r ∙ a) xs 0 q refl
          (omega arith) v (omega arith) (omega arith) t s;
    }
