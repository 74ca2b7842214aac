-- Numbers in four octets each, one behind the other. In the words of the code where a function is meant.
-- Assumes nothing.
use Prim.Native.Nat.{ℕ, zero, suc, ◌+◌, ◌*◌, ◌<◌, ◌≤◌, ◌^◌}
use mathlib.Core.Path.{◌≡◌, refl, sym, ap, subst, ◌∙◌}
use mathlib.Core.Logic.{inl, inr}
use mathlib.Core.List.{List, [], ◌∷◌, ◌++◌, append_assoc, append-nil, Memᴰ}
use native.Mathlib.Numerals.{add-one}
use native.Mathlib.Omega.{arith}
use lib.ListN.{length, take, get_or, length-append, get_or-eq_default}
use lib.Seq.{take-suc, take_all}
use lib.Dec.{leb, eqb}
use borrow.Author.Tests.{leb-true, leb-false, eqb-true, eqb-false}
use Rattle.octets.proofs.Bools.{which}
use Rattle.vector.specs.declared.Vector.{Vector}
use Rattle.vector.specs.Vector.{extent}
use Rattle.coverage.specs.Coverage.{vectors_in, no_vector, vector_in}
use Rattle.put.specs.Put.{octets_of, Written}
use Rattle.put.proofs.Laws.{put-none, length-put, wrote, step, done}
use Rattle.table.specs.Table.{vector_place, spans_in, numbers, Held}

pub numbers-append : (xs ys : List ℕ) → numbers (xs ++ ys) ≡ numbers xs ++ numbers ys
unfolding numbers
numbers-append [] ys = refl
numbers-append (x ∷ xs) ys =
    ap (λ (l : List ℕ). octets_of 4 x ++ l) (numbers-append xs ys) ∙ sym (append_assoc (octets_of 4 x) (numbers xs) (numbers ys))

pub length-numbers : (ns : List ℕ) → length (numbers ns) ≡ 4 * length ns
unfolding numbers
length-numbers [] = refl
length-numbers (n ∷ ns) = omega (arith, length-append (octets_of 4 n) (numbers ns), length-numbers ns)

spans-append : (p : ℕ) (xs ys : List Vector) → spans_in p (xs ++ ys) ≡ spans_in p xs ++ spans_in p ys
unfolding spans_in
spans-append p [] ys = refl
spans-append p (x ∷ xs) ys = ap (λ (l : List ℕ). vector_place p x ∷ extent x ∷ l) (spans-append p xs ys)

pub length-spans : (p : ℕ) (vs : List Vector) → length (spans_in p vs) ≡ 2 * length vs
unfolding spans_in
length-spans p [] = refl
length-spans p (v ∷ vs) = omega (arith, length-spans p vs)

-- what two writers put, one behind the other
pub both-written : {d d1 d2 v w : List ℕ} {at n k a1 a2 : ℕ} → at + (n + k) ≤ length d → Written d at n v d1 a1 → Written d1 a1 k w d2 a2
    → Written d at (n + k) (v ++ w) d2 a2
both-written {d} {d1} {d2} {v} {w} {at} {n} {k} {a1} {a2} room x y =
    let e : v ++ (w ++ []) ≡ v ++ w = ap (λ (l : List ℕ). v ++ l) (append-nil w) in
    let size : length (v ++ (w ++ [])) ≡ n + k = ap length e ∙ (let a = x.size in let b = y.size in omega (arith, length-append v w)) in
    subst (λ (l : List ℕ). Written d at (n + k) l d2 a2) e (wrote (n + k) (step x (step y done)) size room)

-- ---- spans, vector by vector: k of them are written
module _ (p : ℕ) (m : List ℕ) (held : Held p m) (d : List ℕ) (at : ℕ) (room : at + 8 * length (vectors_in m) ≤ length d) where
  abbrev Spans : ℕ → List ℕ → ℕ → Type 0
  Spans k e next = Written d at (8 * k) (numbers (spans_in p (take k (vectors_in m)))) e next

  pub spans-none : Spans 0 d at
  unfolding numbers spans_in
  spans-none = let z : at ≡ at + 0 = omega arith in record { size = refl; after = z; holds = sym (put-none d at) }

  module _ (k : ℕ) (e : List ℕ) (next : ℕ) (on : Spans k e next) where
    pub spans_all : (n : ℕ) → n ≡ length (vectors_in m) → n ≤ k → k ≤ n
        → Written d at (8 * length (vectors_in m)) (numbers (spans_in p (vectors_in m))) e next
    spans_all n n-is h g =
        let same : k ≡ length (vectors_in m) = omega arith in
        let whole : take k (vectors_in m) ≡ vectors_in m = take_all k (vectors_in m) (omega arith) in
        subst (λ (l : List Vector). Written d at (8 * length (vectors_in m)) (numbers (spans_in p l)) e next) whole
        (subst (λ (j : ℕ). Written d at (8 * j) (numbers (spans_in p (take k (vectors_in m)))) e next) same on)

    module _ (n : ℕ) (n-is : n ≡ length (vectors_in m)) (more : k < n) where
      held-here : k < length (vectors_in m)
      held-here = omega arith

      pub span-room : next + 8 ≤ length e
      span-room =
          let l : length e ≡ length d =
          ap length on.holds ∙ length-put d at (numbers (spans_in p (take k (vectors_in m)))) (omega (arith, on.size, held-here)) in
          omega (arith, on.after, held-here)

      module _ (v : Vector) (v-is : v ≡ vector_in m k) where
        pub span-next : (e' : List ℕ) (next' : ℕ) → Written e next 8 (numbers (vector_place p v ∷ extent v ∷ [])) e' next' → Spans (k + 1) e' next'
        unfolding spans_in
        span-next e' next' w =
            let size : 8 * k + 8 ≡ 8 * (k + 1) = omega arith in
            let one : take (k + 1) (vectors_in m) ≡ take k (vectors_in m) ++ (v ∷ []) =
            (rw add-one (take-suc (vectors_in m) k no_vector held-here)) ∙ ap (λ (x : Vector). take k (vectors_in m) ++ (x ∷ [])) (sym v-is) in
            let is : numbers (spans_in p (take k (vectors_in m))) ++ numbers (vector_place p v ∷ extent v
            ∷ []) ≡ numbers (spans_in p (take (k + 1) (vectors_in m))) =
            sym (ap (λ (l : List Vector). numbers (spans_in p l)) one ∙ ap numbers (spans-append p (take k (vectors_in m)) (v ∷ []))
            ∙ numbers-append (spans_in p (take k (vectors_in m))) (vector_place p v ∷ extent v ∷ [])) in
            subst (λ (l : List ℕ). Written d at (8 * (k + 1)) l e' next') is
            (subst (λ (j : ℕ). Written d at j (numbers (spans_in p (take k (vectors_in m))) ++ numbers (vector_place p v ∷ extent v ∷ [])) e' next') size
            (both-written (omega (arith, held-here)) on w))

-- ---- what is asked of a message gives what its vectors need
mem-at : (vs : List Vector) (i : ℕ) → i < length vs → Memᴰ (get_or vs i no_vector) vs
mem-at [] i h = absurd (omega arith)
mem-at (v ∷ vs) zero h = Memᴰ.head refl
mem-at (v ∷ vs) (suc i) h = Memᴰ.tail (mem-at vs i (omega arith))

module _ (p : ℕ) (m : List ℕ) (held : Held p m) where
  pub held_place : p < 2 ^ 32
  held_place = omega (arith, held.ends)

  -- beyond the last vector stands an empty one
  module _ (k : ℕ) (v : Vector) (v-is : v ≡ vector_in m k) where
    pub lies-inside : (extent v ≡ 0 → ⊥) → v.offset.0 + extent v ≤ length m
    lies-inside some = elim (which (leb (length (vectors_in m)) k)) [
      | inl e ↦ absurd (some (ap extent (v-is ∙ get_or-eq_default (vectors_in m) no_vector {n = k} (leb-true _ _ e))))
      | inr e ↦ (held.lies v (subst (λ (x : Vector). Memᴰ x (vectors_in m)) (sym v-is) (mem-at (vectors_in m) k (leb-false _ _ e))) some).before
    ]

    pub vector-short : extent v < 2 ^ 32
    vector-short = elim (which (eqb (extent v) 0)) [
      | inl e ↦ let none : extent v ≡ 0 = eqb-true _ _ e in omega arith
      | inr e ↦ omega (arith, lies-inside (eqb-false _ _ e), held.ends)
    ]

    pub vector-early : vector_place p v < 2 ^ 32
    unfolding vector_place
    vector-early = elim (which (eqb (extent v) 0)) [
      | inl e ↦ rw e (omega (arith, held.ends))
      | inr e ↦ rw e (omega (arith, lies-inside (eqb-false _ _ e), held.ends))
    ]

pub ruleset written-spans = (spans-none, spans_all, span-room, span-next, held_place, vector-short, vector-early)
