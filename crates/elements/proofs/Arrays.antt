-- The array, in the words of the loop that writes it: what is still to be put, put into what is there, is the whole.
-- Assumes nothing.
use Prim.Native.Nat.{ℕ, zero, suc, ◌+◌, ◌-◌, ◌*◌, ◌<◌, ◌≤◌}
use mathlib.Core.Path.{◌≡◌, refl, sym, ap, ◌∙◌}
use mathlib.Core.List.{List}
use native.Mathlib.Omega.{arith}
use lib.ListN.{length, get_or, take, drop, length-drop}
use lib.Seq.{length-take-le}
use denote.Bor.{Bor}
use Rattle.std.specs.Prelude.{Option, Some, None}
use Rattle.std.specs.declared.slice.Iter.{Iter}
use Rattle.std.specs.declared.iter.Zip.{Zip}
use Rattle.std.specs.Iterator.{Yields}
use Rattle.std.specs.Iterator.Adapters.{zip_first, zip_second}
use Rattle.std.specs.Slice.Iter.{iter_rest}
use Rattle.std.proofs.iter.Yields.{fronts}
use Rattle.std.proofs.lemmas.Iterator.{zips}
use Rattle.std.proofs.lemmas.List.{get_or-take}
use Rattle.std.proofs.lemmas.Slice.Zip.{Zip-so_far, Zip-more, zip_turn, zip_end}
use Rattle.put.specs.Put.{put, joined, Written}
use Rattle.put.proofs.Laws.{put-none, put-more, length-put}
use Rattle.elements.specs.Elements.{element_fields, array_from, sum_from}
use Rattle.elements.proofs.Limits.{one_less, sum-turn}

pub length-array : (n i p : ℕ) (ts ns : List ℕ) → length (array_from n i p ts ns) ≡ 12 * n
unfolding array_from
length-array zero i p ts ns = refl
length-array (suc n) i p ts ns = let k = length-array n (i + 1) (p + get_or ns i 0) ts ns in omega arith

module _ (ts ns d : List ℕ) (at count i p : ℕ) where
  pub array-turn : (d' : List ℕ) (next : ℕ) → i < count → at + 12 * (count - i) ≤ length d
      → Written d at 12 (joined (element_fields (get_or ts i 0) p (get_or ns i 0))) d' next
      → put d at (array_from (count - i) i p ts ns) ≡ put d' next (array_from (count - (i + 1)) (i + 1) (p + get_or ns i 0) ts ns)
  unfolding array_from
  array-turn d' next h room w =
      let v = joined (element_fields (get_or ts i 0) p (get_or ns i 0)) in
      let u = array_from (count - (i + 1)) (i + 1) (p + get_or ns i 0) ts ns in
      let k : length u ≡ 12 * (count - (i + 1)) = length-array (count - (i + 1)) (i + 1) (p + get_or ns i 0) ts ns in
      let r : at + length v + length u ≤ length d = omega arith in
      rw (one_less count i h) (rw (w.holds, w.after) (sym (put-more d at v u r)))

  pub array-end : count ≤ i → put d at (array_from (count - i) i p ts ns) ≡ d
  unfolding array_from
  array-end h = let z : count - i ≡ 0 = omega arith in rw z (put-none d at)

-- the loop's invariant
pub record Left (ts ns d₀ : List ℕ) (at count first : ℕ) (d : List ℕ) (i place offset : ℕ) : Type 0 where
  pub holds : put d₀ at (array_from count 0 first ts ns) ≡ put d place (array_from (count - i) i offset ts ns)
  pub size : length d ≡ length d₀
  pub more : i ≤ count
  pub there : place ≡ at + 12 * i
  pub sum : offset + sum_from (count - i) i ns ≡ first + sum_from count 0 ns

module _ (ts ns d₀ : List ℕ) (at count first : ℕ) where
  module _ (room : at + 12 * count ≤ length d₀) (d : List ℕ) (i place offset : ℕ) (l : Left ts ns d₀ at count first d i place offset) where
    pub left-room : i < count → place + 12 ≤ length d
    left-room h = let a = l.there in let b = l.size in omega arith

    pub left-turn : i < count → (d' : List ℕ) (next : ℕ) → Written d place 12 (joined (element_fields (get_or ts i 0) offset (get_or ns i 0))) d' next
        → Left ts ns d₀ at count first d' (i + 1) next (offset + get_or ns i 0)
    left-turn h d' next w =
        let a = l.there in
        let b = l.size in
        let s = l.sum in
        let t = sum-turn count i ns h in
        let n = w.after in
        let k = left-room h in
        let r : place + 12 * (count - i) ≤ length d = omega arith in
        record {
          holds = l.holds ∙ array-turn ts ns d place count i offset d' next h r w;
          size = ap length w.holds ∙ length-put d place (joined (element_fields (get_or ts i 0) offset (get_or ns i 0))) k ∙ b;
          more = omega arith;
          there = omega arith;
          sum = omega arith;
        }

    pub left_end : count ≤ i → Written d₀ at (12 * count) (array_from count 0 first ts ns) d place
    left_end h =
        let a = l.there in
        let m = l.more in
        record { size = length-array count 0 first ts ns; after = omega arith; holds = sym (l.holds ∙ array-end ts ns d place count i offset h) }

-- ---- the loop over types and sizes: after xs it is at the place length xs
module _ (ts ns : List ℕ) (n : ℕ) (few : n ≤ 8) (types : length ts ≡ 8) (sizes : length ns ≡ 8)
    (xs : List (Bor ℕ × Bor ℕ)) (s t u : Zip (Iter ℕ) (Iter ℕ)) (r : Option (Bor ℕ × Bor ℕ))
    (first : iter_rest (zip_first s) ≡ take n ts) (second : iter_rest (zip_second s) ≡ take n ns)
    (y : Yields (zips fronts fronts) s xs t) (step : zips fronts fronts t r u) where
  long-types : length (take n ts) ≡ n
  long-types = length-take-le n ts (omega arith)

  long-sizes : length (take n ns) ≡ n
  long-sizes = length-take-le n ns (omega arith)

  left-over : (length (iter_rest (zip_first t)) ≡ n - length xs) × (length xs ≤ n)
  left-over =
      let f = Zip-so_far xs s t y in
      (ap length (f.0 ∙ ap (drop (length xs)) first) ∙ simp (length-drop, long-types), rw (first, long-types) at f.2)

  pub reached : n - length (iter_rest (zip_first t)) ≡ length xs
  reached = omega (arith, left-over.0, left-over.1)

  pub turn-more : (p : Bor ℕ × Bor ℕ) → r ≡ Some p → (length xs < n) × (n - length (iter_rest (zip_first u)) ≡ length xs + 1)
      × (p.0.now ≡ get_or ts (length xs) 0) × (p.1.now ≡ get_or ns (length xs) 0)
  turn-more p is =
      let z = zip_turn (take n ts) (take n ns) xs s t u r first second y p is step in
      let low : length xs < n = omega (arith, z.0, long-types) in
      let m = (Zip-more t u r p is step).0 in
      let l : length (iter_rest (zip_first t)) ≡ suc (length (iter_rest (zip_first u))) = ap length m in
      (low, omega (arith, left-over.0, left-over.1), z.2 0 ∙ get_or-take n ts (length xs) 0 low, z.3 0 ∙ get_or-take n ns (length xs) 0 low)

  pub turn_end : r ≡ None → n ≤ length xs
  turn_end is =
      let z = zip_end (take n ts) (take n ns) xs s t u r first second y is step in
      omega (arith, z, long-types, long-sizes)
