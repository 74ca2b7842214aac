-- 24 is given exactly where a number from 0 to the highest is missing, stands twice or stands behind a higher one in its file: both are
-- followed along the turns, a run at a time.
-- Assumes nothing.
use Prim.Native.Nat.{ℕ, zero, suc, ◌+◌, ◌<◌, ◌≤◌}
use mathlib.Core.Path.{◌≡◌, refl, sym, ◌∙◌}
use mathlib.Core.Logic.Iff
use mathlib.Core.Logic.{◌⊎◌, inl, inr, ◌↔◌}
use mathlib.Core.List.Memᴰ
use mathlib.Core.List.{List, [], ◌∷◌, ◌++◌, Memᴰ}
use native.Mathlib.Omega.{arith}
use native.Mathlib.Nat.{add-zero}
use lib.ListN.{length, drop}
use lib.Dec.{eqb, ltb}
use borrow.Author.Tests.{eq-eqb, eqb-true, eqb-false, ltb-true, ltb-false}
use Rattle.octets.proofs.Bools.{which}
use Rattle.message.specs.Layout.{head_of}
use Rattle.sides.specs.Merging.{run_from, turns_from, together}
use Rattle.sides.specs.Claims.{numbers_of, Rising, InRow, InRowExactly}

abbrev Has : ℕ → List ℕ → List ℕ → Type 0
Has k i a = Memᴰ k i ⊎ Memᴰ k a

-- `InRow` of what is left of two files, q the next number
record RowFrom (q : ℕ) (i a : List ℕ) : Type 0 where
  pub none-lower : (k : ℕ) → Has k i a → q ≤ k
  pub none_missing : (k p : ℕ) → Has k i a → q ≤ p → p ≤ k → Has p i a
  pub one-rises : Rising i
  pub other-rises : Rising a
  pub once : (k : ℕ) → Memᴰ k i → Memᴰ k a → ⊥

-- the two files are alike
other : (k : ℕ) (i a : List ℕ) → Has k i a → Has k a i
other k i a (inl m) = inr m
other k i a (inr m) = inl m

swap : (q : ℕ) (i a : List ℕ) → RowFrom q i a → RowFrom q a i
swap q i a r = record {
  none-lower = λ k m. r.none-lower k (other k a i m);
  none_missing = λ k p m l h. other p i a (r.none_missing k p (other k a i m) l h);
  one-rises = r.other-rises;
  other-rises = r.one-rises;
  once = λ k m n. r.once k n m;
}

swapped : (q : ℕ) (i a : List ℕ) → RowFrom q i a ↔ RowFrom q a i
swapped q i a = (swap q i a, swap q a i)

-- the next number x at the front of a file
module _ (q x : ℕ) (i a : List ℕ) (next : x ≡ q) where
  more : (k : ℕ) → Has k i a → Has k (x ∷ i) a
  more k (inl m) = inl (Memᴰ.tail m)
  more k (inr m) = inr m

  first-or : (k : ℕ) → Has k (x ∷ i) a → (k ≡ x) ⊎ Has k i a
  first-or k (inl m) = elim (Memᴰ.cases_cons m) [ inl e ↦ inl e | inr n ↦ inr (inl n) ]
  first-or k (inr m) = inr (inr m)

  on : RowFrom q (x ∷ i) a → RowFrom (q + 1) i a
  on r = record {
    none-lower = above;
    none_missing = between;
    one-rises = r.one-rises.1;
    other-rises = r.other-rises;
    once = λ k m n. r.once k (Memᴰ.tail m) n;
  } where
    above : (k : ℕ) → Has k i a → q + 1 ≤ k
    above k (inl m) = let z : x < k = r.one-rises.0 k m in omega arith
    above k (inr m) = elim (which (eqb k q)) [
      | inl e ↦ absurd (r.once k (Memᴰ.head (eqb-true k q e ∙ sym next)) m)
      | inr e ↦ let d : k ≡ q → ⊥ = eqb-false k q e in let z : q ≤ k = r.none-lower k (inr m) in omega arith
    ]

    between : (k p : ℕ) → Has k i a → q + 1 ≤ p → p ≤ k → Has p i a
    between k p m l h = elim (first-or p (r.none_missing k p (more k m) (omega arith) h)) [ inl e ↦ absurd (omega arith) | inr n ↦ n ]

  back : RowFrom (q + 1) i a → RowFrom q (x ∷ i) a
  back r =
      record { none-lower = from-here; none_missing = between; one-rises = (behind, r.one-rises); other-rises = r.other-rises; once = apart } where
        from-here : (k : ℕ) → Has k (x ∷ i) a → q ≤ k
        from-here k m = elim (first-or k m) [ inl e ↦ omega arith | inr n ↦ let z : q + 1 ≤ k = r.none-lower k n in omega arith ]

        between : (k p : ℕ) → Has k (x ∷ i) a → q ≤ p → p ≤ k → Has p (x ∷ i) a
        between k p m l h = elim (which (eqb p q)) [
          | inl e ↦ inl (Memᴰ.head (eqb-true p q e ∙ sym next))
          | inr e ↦
              let d : p ≡ q → ⊥ = eqb-false p q e in
              elim (first-or k m) [ inl f ↦ absurd (omega arith) | inr n ↦ more p (r.none_missing k p n (omega arith) h) ]
        ]

        behind : (k : ℕ) → Memᴰ k i → x < k
        behind k m = let z : q + 1 ≤ k = r.none-lower k (inl m) in omega arith

        apart : (k : ℕ) → Memᴰ k (x ∷ i) → Memᴰ k a → ⊥
        apart k m n = elim (Memᴰ.cases_cons m) [ inl e ↦ let z : q + 1 ≤ k = r.none-lower k (inr n) in omega arith | inr o ↦ r.once k o n ]

  one_on : RowFrom q (x ∷ i) a ↔ RowFrom (q + 1) i a
  one_on = (on, back)

-- the run at the front of a file, and what is after it
abbrev ran : ℕ → List (List ℕ) → ℕ
ran q ms = length (run_from q ms)

abbrev rest : ℕ → List (List ℕ) → List (List ℕ)
rest q ms = drop (ran q ms) ms

run_on : (q : ℕ) (i : List (List ℕ)) (a : List ℕ) → RowFrom q (numbers_of i) a ↔ RowFrom (q + ran q i) (numbers_of (rest q i)) a
unfolding run_from
run_on q [] a = rw (add-zero q) Iff.rfl
run_on q (m ∷ i) a = elim (which (eqb (head_of m).sequence q)) [
  | inl e ↦
      let s : q + suc (ran (q + 1) i) ≡ q + 1 + ran (q + 1) i = omega arith in
      rw (e, s) (Iff.trans (one_on q _ (numbers_of i) a (eqb-true _ _ e)) (run_on (q + 1) i a))
  | inr e ↦ rw (e, add-zero q) Iff.rfl
]

run-rest : (q : ℕ) (i : List (List ℕ)) → ran q i + length (rest q i) ≡ length i
unfolding run_from
run-rest q [] = refl
run-rest q (m ∷ i) = elim (which (eqb (head_of m).sequence q)) [
  | inl e ↦ let z : ran (q + 1) i + length (rest (q + 1) i) ≡ length i = run-rest (q + 1) i in rw e (omega arith)
  | inr e ↦ rw e (omega arith)
]

-- a file that rises and has no lower number than q can have q at its front only
not_there : (q : ℕ) (i : List (List ℕ)) → ran q i ≤ 0 → ((k : ℕ) → Memᴰ k (numbers_of i) → q ≤ k) → Rising (numbers_of i)
    → Memᴰ q (numbers_of i) → ⊥
unfolding run_from
not_there q [] none lower rises m = Memᴰ.not-nil m
not_there q (n ∷ i) none lower rises m = elim (which (eqb (head_of n).sequence q)) [
  | inl e ↦ let z : suc (ran (q + 1) i) ≤ 0 = rw e at none in omega arith
  | inr e ↦
      let l : q ≤ (head_of n).sequence = lower _ (Memᴰ.head refl) in
      elim (Memᴰ.cases_cons m) [ inl f ↦ eqb-false _ _ e (sym f) | inr o ↦ let z : (head_of n).sequence < q = rises.0 q o in omega arith ]
]

-- the turns end where neither file has the next number at its front: nothing is left there
nothing_left : (q : ℕ) (i a : List (List ℕ)) → 0 ≡ length i + length a → RowFrom q (numbers_of i) (numbers_of a)
nothing_left q [] [] e =
    record {
      none-lower = λ k m. nowhere k m;
      none_missing = λ k p m l h. nowhere k m;
      one-rises = tt;
      other-rises = tt;
      once = λ k m n. Memᴰ.not-nil m;
    } where
      nowhere : {A : Type 0} (k : ℕ) → Has k [] [] → A
      nowhere k (inl m) = absurd (Memᴰ.not-nil m)
      nowhere k (inr m) = absurd (Memᴰ.not-nil m)
nothing_left q (m ∷ i) a e = absurd (omega arith)
nothing_left q [] (m ∷ a) e = absurd (omega arith)

no_number : (i a : List (List ℕ)) → ((k : ℕ) → Has k (numbers_of i) (numbers_of a) → ⊥) → 0 ≡ length i + length a
no_number [] [] h = refl
no_number (m ∷ i) a h = absurd (h _ (inl (Memᴰ.head refl)))
no_number [] (m ∷ a) h = absurd (h _ (inr (Memᴰ.head refl)))

ended : (q : ℕ) (i a : List (List ℕ)) → ran q i ≤ 0 → ran q a ≤ 0 → (0 ≡ length i + length a) ↔ RowFrom q (numbers_of i) (numbers_of a)
ended q i a none neither = (nothing_left q i a, λ r. no_number i a (λ k m. no-next r (r.none_missing k q m (omega arith) (r.none-lower k m)))) where
  no-next : RowFrom q (numbers_of i) (numbers_of a) → Has q (numbers_of i) (numbers_of a) → ⊥
  no-next r (inl m) = not_there q i none (λ k n. r.none-lower k (inl n)) r.one-rises m
  no-next r (inr m) = not_there q a neither (λ k n. r.none-lower k (inr n)) r.other-rises m

-- as many turns as there are messages, or more, are asked for
all-in-row : (n q : ℕ) (i a : List (List ℕ)) → length i + length a ≤ n
    → (together (turns_from n q i a) ≡ length i + length a) ↔ RowFrom q (numbers_of i) (numbers_of a)
unfolding turns_from together
all-in-row zero q i a h = (λ e. nothing_left q i a e, λ r. omega arith)
all-in-row (suc n) q i a h = elim (which (ltb 0 (ran q i))) [
  | inl e ↦
      let some : 0 < ran q i = ltb-true _ _ e in
      let whole : ran q i + length (rest q i) ≡ length i = run-rest q i in
      rw e (Iff.trans (λ t. omega arith, λ t. omega arith)
      (Iff.trans (all-in-row n (q + ran q i) (rest q i) a (omega arith)) (Iff.symm (run_on q i (numbers_of a)))))
  | inr e ↦ elim (which (ltb 0 (ran q a))) [
    | inl f ↦
        let some : 0 < ran q a = ltb-true _ _ f in
        let whole : ran q a + length (rest q a) ≡ length a = run-rest q a in
        rw (e, f) (
        Iff.trans (λ t. omega arith, λ t. omega arith) (
        Iff.trans (all-in-row n (q + ran q a) i (rest q a) (omega arith))
        (Iff.trans (swapped _ _ _) (Iff.trans (Iff.symm (run_on q a (numbers_of i))) (swapped _ _ _)))
        )
        )
    | inr f ↦ rw (e, f) (ended q i a (ltb-false _ _ e) (ltb-false _ _ f))
  ]
]

from_zero : (i a : List ℕ) → RowFrom 0 i a ↔ InRow i a
from_zero i a = (
  λ r. record {
    none_missing = λ k q m h. one q (r.none_missing k q (Memᴰ.append_cases i m) (omega arith) h);
    initiator_rises = r.one-rises;
    acceptor_rises = r.other-rises;
    once = r.once;
  },
  λ r. record {
    none-lower = λ k m. omega arith;
    none_missing = λ k p m l h. Memᴰ.append_cases i (r.none_missing k p (one k m) h);
    one-rises = r.initiator_rises;
    other-rises = r.acceptor_rises;
    once = r.once;
  },
) where
  one : (k : ℕ) → Has k i a → Memᴰ k (i ++ a)
  one k (inl m) = Memᴰ.append_left a m
  one k (inr m) = Memᴰ.append_right i m

pub in-row-exactly : InRowExactly
in-row-exactly i a =
    Iff.trans (eqb-true _ _, eq-eqb _ _) (Iff.trans (all-in-row (length i + length a) 0 i a (omega arith)) (from_zero (numbers_of i) (numbers_of a)))
