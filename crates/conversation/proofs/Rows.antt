-- A call's outcome, by its table of refusals.
-- Assumes nothing.
use Prim.Native.Nat.{ℕ}
use mathlib.Core.Path.{◌≡◌, refl, sym, ap, ◌∙◌}
use mathlib.Core.Bool.{Bool, true, false, cond, not, ◌&&◌}
use mathlib.Core.Logic.{◌⊎◌, inl, inr}
use mathlib.Core.List.{List, [], ◌∷◌, ◌++◌}
use lib.Dec.{eqb}
use borrow.Author.Tests.{eq-eqb, ne_eqb}
use Rattle.octets.proofs.Bools.{no_true, and_l, and_r}
use Rattle.message.specs.Check.{Row, FirstFails}
use Rattle.message.proofs.Tables.{AllTrue, without, fails-other}
use Rattle.conversation.specs.declared.Record.{Record}
use Rattle.conversation.specs.Outcomes.{Outcome, refused, decide, row}
use Rattle.conversation.specs.Runs.{is_accepted}

-- what holds of every refusal and of the action holds of the outcome
pub decide-out : (P : Outcome → Type 0) (rows : List Row) (r : Record) (d : List ℕ) (action : Outcome)
    → ((n : ℕ) → FirstFails n rows → P (refused r d n 0)) → (AllTrue rows → P action) → P (decide rows r d action)
decide-out P [] r d action f h = h tt
decide-out P (x ∷ xs) r d action f h = go x.test refl (decide-out P xs r d action) where
  go : (b : Bool) → x.test ≡ b → (((n : ℕ) → FirstFails n xs → P (refused r d n 0)) → (AllTrue xs → P action) → P (decide xs r d action))
      → P (cond x.test (decide xs r d action) (refused r d x.number 0))
  go true t ih = rw t (ih (λ n g. f n (inr (t, g))) (λ g. h (t, g)))
  go false t ih = rw t (f x.number (inl (t, refl)))

-- what holds of the action, accepted behind tests that all hold, holds of an accepted outcome
pub accepted-out : (P : Outcome → Type 0) (rows : List Row) (r : Record) (d : List ℕ) (action : Outcome) → without 0 rows ≡ true
    → (AllTrue rows → is_accepted action.answer ≡ true → P action)
    → is_accepted (decide rows r d action).answer ≡ true → P (decide rows r d action)
accepted-out P rows r d action z =
    decide-out (λ out. is_accepted out.answer ≡ true → P out) rows r d action
    (λ n f a. no_true (sym (ne_eqb n 0 (fails-other 0 rows n z f)) ∙ a))

-- the tests of an accepted call hold
pub passed-by : (rows : List Row) (r : Record) (d : List ℕ) (action : Outcome) → without 0 rows ≡ true
    → is_accepted (decide rows r d action).answer ≡ true → AllTrue rows
passed-by rows r d action z = accepted-out (λ out. AllTrue rows) rows r d action z (λ g a. g)

-- a number that one row has is given where that row's test is the first that fails
pub fails-one : (k : ℕ) (xs : List Row) (b : Bool) (ys : List Row) (n : ℕ) → without k xs ≡ true → without k ys ≡ true
    → FirstFails n (xs ++ (row k b ∷ ys)) → n ≡ k → AllTrue xs × (b ≡ false)
fails-one k [] b ys n w v (inl f) e = (tt, f.0)
fails-one k [] b ys n w v (inr f) e = absurd (fails-other k ys n v f.1 e)
fails-one k (x ∷ xs) b ys n w v (inl f) e =
    no_true (let q : eqb x.number k ≡ true = eq-eqb _ _ (f.1 ∙ e) in rw q at (and_l (not (eqb x.number k)) (without k xs) w))
fails-one k (x ∷ xs) b ys n w v (inr f) e =
    let i = fails-one k xs b ys n (and_r (not (eqb x.number k)) (without k xs) w) v f.1 e in
    ((f.0, i.0), i.1)

-- the number of two tables is the first's, or the second's where the first passes
pub fails-parts : (xs ys : List Row) (n : ℕ) → FirstFails n (xs ++ ys) → FirstFails n xs ⊎ (AllTrue xs × FirstFails n ys)
fails-parts [] ys n f = inr (tt, f)
fails-parts (x ∷ xs) ys n (inl f) = inl (inl f)
fails-parts (x ∷ xs) ys n (inr f) = elim (fails-parts xs ys n f.1) [ inl g ↦ inl (inr (f.0, g)) | inr g ↦ inr ((f.0, g.0), g.1) ]

-- what every number of the table has, the one that is given has
abbrev pub each_number : (ℕ → Bool) → List Row → Bool
each_number p [] = true
each_number p (x ∷ xs) = p x.number && each_number p xs

pub fails-each : (p : ℕ → Bool) (rows : List Row) (n : ℕ) → each_number p rows ≡ true → FirstFails n rows → p n ≡ true
fails-each p [] n w f = absurd f
fails-each p (x ∷ xs) n w (inl f) = ap p (sym f.1) ∙ and_l (p x.number) (each_number p xs) w
fails-each p (x ∷ xs) n w (inr f) = fails-each p xs n (and_r (p x.number) (each_number p xs) w) f.1

-- a test in the middle of a table that passes
pub true-behind : (xs : List Row) (x : Row) (ys : List Row) → AllTrue (xs ++ (x ∷ ys)) → x.test ≡ true
true-behind [] x ys h = h.0
true-behind (y ∷ xs) x ys h = true-behind xs x ys h.1

-- after a test that fails no row is looked at
pub fails-until : (xs : List Row) (x : Row) (ys : List Row) (n : ℕ) → x.test ≡ false → FirstFails n (xs ++ (x ∷ ys)) → FirstFails n (xs ++ (x ∷ []))
fails-until [] x ys n e (inl f) = inl f
fails-until [] x ys n e (inr f) = no_true (sym e ∙ f.0)
fails-until (y ∷ xs) x ys n e (inl f) = inl f
fails-until (y ∷ xs) x ys n e (inr f) = inr (f.0, fails-until xs x ys n e f.1)

pub front-true : (xs ys : List Row) → AllTrue (xs ++ ys) → AllTrue xs
front-true [] ys h = tt
front-true (x ∷ xs) ys h = (h.0, front-true xs ys h.1)

pub back-true : (xs ys : List Row) → AllTrue (xs ++ ys) → AllTrue ys
back-true [] ys h = h
back-true (x ∷ xs) ys h = back-true xs ys h.1

pub both_true : (xs ys : List Row) → AllTrue xs → AllTrue ys → AllTrue (xs ++ ys)
both_true [] ys a b = b
both_true (x ∷ xs) ys a b = (a.0, both_true xs ys a.1 b)
