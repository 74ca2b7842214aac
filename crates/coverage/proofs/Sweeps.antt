-- What the sweep over the map counts is what the vectors cover.
-- Assumes nothing.
use Prim.Native.Nat.{ℕ, zero, suc, ◌+◌, ◌≤◌, ◌<◌, min, max}
use mathlib.Core.Path.{◌≡◌, refl, sym, ap, ◌∙◌}
use mathlib.Core.Bool.{Bool, cond, ◌||◌}
use mathlib.Core.Logic.{inl, inr}
use mathlib.Core.List.{List, [], ◌∷◌}
use native.Mathlib.Omega.{arith}
use lib.ListN.{length, get_or, length-set}
use lib.Seq.{get_or-set_same, get_or-set_other}
use lib.Dec.{ltb, eqb}
use borrow.Author.Tests.{lt-ltb, le-ltb, lt-leb, le-leb, ne_eqb, ltb-true, ltb-false, eqb-true, eqb-false}
use Rattle.octets.proofs.Bools.{which}
use Rattle.vector.specs.declared.Vector.{Vector}
use Rattle.vector.specs.Vector.{extent}
use Rattle.coverage.specs.Coverage.{lies_in, lies_in_one, one, count}
use Rattle.coverage.specs.Sweep.{Clear, end_in, marked, marked_all, sweep}

-- the farthest end, within n, of the vectors that start at a place; of those that start before it
abbrev start_end : ℕ → List Vector → ℕ → ℕ
start_end n [] p = 0
start_end n (v ∷ vs) p = max (cond (eqb v.offset.0 p) (end_in n v) 0) (start_end n vs p)

abbrev pub end_before : ℕ → List Vector → ℕ → ℕ
end_before n [] p = 0
end_before n (v ∷ vs) p = max (cond (ltb v.offset.0 p) (end_in n v) 0) (end_before n vs p)

or-max : (p a b : ℕ) → ltb p a || ltb p b ≡ ltb p (max a b)
or-max p a b = elim (which (ltb p a)) [
  | inl e ↦ let h = ltb-true p a e in rw e (sym (lt-ltb p (max a b) (omega arith)))
  | inr e ↦ let h = ltb-false p a e in elim (which (ltb p b)) [
    | inl g ↦ let k = ltb-true p b g in rw (e, g) (sym (lt-ltb p (max a b) (omega arith)))
    | inr g ↦ let k = ltb-false p b g in rw (e, g) (sym (le-ltb p (max a b) (omega arith)))
  ]
]

-- a place within n lies in a vector where it stands before its end and not before its start
lies-end : (n p : ℕ) (v : Vector) → p < n → lies_in v p ≡ ltb p (cond (ltb v.offset.0 (p + 1)) (end_in n v) 0)
unfolding lies_in
lies-end n p v h = elim (which (ltb v.offset.0 (p + 1))) [
  | inl e ↦ let k = ltb-true v.offset.0 (p + 1) e in rw (e, le-leb v.offset.0 p (omega arith)) (within (v.offset.0 + extent v))
  | inr e ↦ let k = ltb-false v.offset.0 (p + 1) e in rw (e, lt-leb v.offset.0 p (omega arith)) (sym (le-ltb p 0 (omega arith)))
] where
  within : (e : ℕ) → ltb p e ≡ ltb p (min e n)
  within e = elim (which (ltb p e)) [
    | inl g ↦ let k = ltb-true p e g in rw g (sym (lt-ltb p (min e n) (omega arith)))
    | inr g ↦ let k = ltb-false p e g in rw g (sym (le-ltb p (min e n) (omega arith)))
  ]

pub vectors-end : (n p : ℕ) (vs : List Vector) → p < n → lies_in_one vs p ≡ ltb p (end_before n vs (p + 1))
unfolding lies_in_one
vectors-end n p [] h = sym (le-ltb p 0 (omega arith))
vectors-end n p (v ∷ vs) h = rw (lies-end n p v h, vectors-end n p vs h) (or-max p _ _)

-- one place further
end-one : (n p e o : ℕ) → cond (ltb o (p + 1)) e 0 ≡ max (cond (ltb o p) e 0) (cond (eqb o p) e 0)
end-one n p e o = elim (which (ltb o p)) [
  | inl g ↦ let k = ltb-true o p g in rw (g, lt-ltb o (p + 1) (omega arith), ne_eqb o p (λ q. omega arith)) (omega arith)
  | inr g ↦ let k = ltb-false o p g in elim (which (eqb o p)) [
    | inl q ↦ let r = eqb-true o p q in rw (g, q, lt-ltb o (p + 1) (omega arith)) (omega arith)
    | inr q ↦ let r = eqb-false o p q in rw (g, q, le-ltb o (p + 1) (above k r)) (omega arith)
  ]
] where
  above : p ≤ o → (o ≡ p → ⊥) → p + 1 ≤ o
  above k r = omega arith

end-next : (n p : ℕ) (vs : List Vector) → end_before n vs (p + 1) ≡ max (end_before n vs p) (start_end n vs p)
end-next n p [] = omega arith
end-next n p (v ∷ vs) =
    rw (end-one n p (end_in n v) v.offset.0, end-next n p vs)
    (swap (cond (ltb v.offset.0 p) (end_in n v) 0) (cond (eqb v.offset.0 p) (end_in n v) 0) (end_before n vs p) (start_end n vs p)) where
      swap : (a b c d : ℕ) → max (max a b) (max c d) ≡ max (max a c) (max b d)
      swap a b c d = omega arith

pub end_none : (n : ℕ) (vs : List Vector) → end_before n vs 0 ≡ 0
end_none n [] = refl
end_none n (v ∷ vs) = rw (le-ltb v.offset.0 0 (omega arith), end_none n vs) (omega arith)

-- what the map holds once vectors are marked
pub length_marked : (map : List ℕ) (v : Vector) → length (marked map v) ≡ length map
unfolding marked
length_marked map v = simp length-set

pub length-marks : (map : List ℕ) (vs : List Vector) → length (marked_all map vs) ≡ length map
unfolding marked_all
length-marks map [] = refl
length-marks map (v ∷ vs) = length-marks (marked map v) vs ∙ length_marked map v

marked-at : (map : List ℕ) (v : Vector) (p : ℕ) → p < length map
    → get_or (marked map v) p 0 ≡ max (get_or map p 0) (cond (eqb v.offset.0 p) (end_in (length map) v) 0)
unfolding marked
marked-at map v p h = elim (which (eqb v.offset.0 p)) [
  | inl e ↦ let o = eqb-true v.offset.0 p e in rw (e, o) (get_or-set_same map p _ 0 h)
  | inr e ↦ let o =
      eqb-false v.offset.0 p e in
      rw (e, get_or-set_other map v.offset.0 p (max (get_or map v.offset.0 0) (end_in (length map) v)) 0 (λ q. o (sym q))) (omega arith)
]

marks-at : (map : List ℕ) (vs : List Vector) (p : ℕ) → p < length map → get_or (marked_all map vs) p 0 ≡ max (get_or map p 0) (start_end (length map) vs p)
unfolding marked_all
marks-at map [] p h = omega arith
marks-at map (v ∷ vs) p h =
    let l = length_marked map v in
    marks-at (marked map v) vs p (omega arith) ∙ rw (l, marked-at map v p h) (omega arith)

-- the farthest end met so far, one place further
pub far-next : (map : List ℕ) (vs : List Vector) → Clear map → (at : ℕ) → at < length map
    → max (end_before (length map) vs at) (get_or (marked_all map vs) at 0) ≡ end_before (length map) vs (at + 1)
far-next map vs clear at h = rw (marks-at map vs at h, clear at, end-next (length map) at vs) (omega arith)

-- the places before a start or in one of the vectors
abbrev pub held_by : ℕ → List Vector → ℕ → Bool
held_by start vs p = ltb p start || lies_in_one vs p

module _ (map : List ℕ) (clear : Clear map) (start : ℕ) (vs : List Vector) where
  abbrev n : ℕ
  n = length map

  sweep-from : (k at : ℕ) → at + k ≤ n → sweep (marked_all map vs) (max start (end_before n vs at)) k at ≡ count (held_by start vs) k at
  unfolding sweep count
  sweep-from zero at h = refl
  sweep-from (suc k) at h =
      let far : max (max start (end_before n vs at)) (get_or (marked_all map vs) at 0) ≡ max start (end_before n vs (at + 1))
      = omega (arith, far-next map vs clear at (omega arith)) in
      rw (far, vectors-end n at vs (omega arith), or-max at start (end_before n vs (at + 1)))
      (ap (λ (x : ℕ). one (ltb at (max start (end_before n vs (at + 1)))) + x) (sweep-from k (at + 1) (omega arith)))

  pub sweep-held : sweep (marked_all map vs) start n 0 ≡ count (held_by start vs) n 0
  sweep-held =
      let e : max start (end_before n vs 0) ≡ start = rw (end_none n vs) (omega arith) in
      rw e at (sweep-from n 0 (omega arith))
