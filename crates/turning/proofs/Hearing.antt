-- The reader's answer, in the words of the code: what comes after the first message is 28, where that is owed.
-- Assumes nothing.
use Prim.Native.Nat.{ℕ, zero, suc, ◌+◌, ◌-◌, ◌<◌, ◌≤◌}
use mathlib.Core.Path.{◌≡◌, refl, sym, ap, ◌∙◌}
use mathlib.Core.Bool.{Bool, true, false, cond, not}
use mathlib.Core.Logic.{◌⊎◌, inl, inr}
use mathlib.Core.List.{List, [], ◌∷◌, ◌++◌}
use native.Mathlib.Omega.{arith}
use lib.ListN.{length}
use lib.Dec.{eqb}
use borrow.Author.Tests.{eq-eqb, ne_eqb, lt-ltb, le-ltb, lt-leb, not-true}
use Rattle.octets.proofs.Bools.{which, and_l, and_r}
use Rattle.message.specs.Layout.{size}
use Rattle.message.specs.Check.{Row, common_rows, content_rows, body_rows, front_rows}
use Rattle.message.proofs.Tables.{AllTrue, without, fails-other, refuses-first}
use Rattle.token.specs.Token.{order_rows, next_rows, passes, chain_of}
use Rattle.conversation.specs.declared.Record.{Record}
use Rattle.conversation.specs.declared.Answer.{Answer}
use Rattle.conversation.specs.State.{limit_rows}
use Rattle.conversation.specs.Outcomes.{Outcome, answered, refused, decide, room}
use Rattle.conversation.specs.Reading.{Judged, whole, halted, chain_for, conversation_of, judged, finish, token_rows, reading_token}
use Rattle.conversation.proofs.Tokens.{Numbers, judged-numbers}
use Rattle.sides.specs.Turning.{after_first, heard_turn}
use Rattle.turning.specs.Hearing.{owed_before}

-- 1. no message is refused with 16

abbrev Not16 : ℕ → Type 0
Not16 n = n ≡ 16 → ⊥

rows-16 : (s : List ℕ) (q : ℕ) (v : List ℕ) → without 16 (next_rows s q v) ≡ true
unfolding next_rows common_rows order_rows front_rows body_rows content_rows
rows-16 s q v = refl

chain-16 : (xs : List ℕ) (k place q : ℕ) (v : List ℕ) → Numbers Not16 (chain_of xs k place q v)
unfolding chain_of
chain-16 [] k place q v = tt
chain-16 (x ∷ xs) (suc k) place q v = chain-16 xs k place q v
chain-16 (x ∷ xs) zero place q v = go (which (passes (x ∷ xs) q v)) (chain-16 xs (size (x ∷ xs) - 1) (place + size (x ∷ xs)) (q + 1) v) where
  go : (passes (x ∷ xs) q v ≡ true) ⊎ (passes (x ∷ xs) q v ≡ false) → Numbers Not16 (chain_of xs (size (x ∷ xs) - 1) (place + size (x ∷ xs)) (q + 1) v)
      → Numbers Not16 (chain_of (x ∷ xs) 0 place q v)
  go (inl p) ih = rw p ih
  go (inr p) ih = rw p (fails-other 16 (next_rows (x ∷ xs) q v) _ (rows-16 (x ∷ xs) q v) (refuses-first (next_rows (x ∷ xs) q v) p))

judged-16 : (r : Record) (t : List ℕ) (n p : ℕ) → judged r t ≡ halted n p → Not16 n
judged-16 r t = judged-numbers Not16 (λ w. omega arith) (λ w. omega arith) r t (numbers t) where
  numbers : (s : List ℕ) → Numbers Not16 (chain_for r s)
  numbers [] = λ w. omega arith
  numbers (x ∷ s) =
      let some : length (x ∷ s) ≡ 0 → ⊥ = λ z. omega arith in
      rw (ne_eqb _ _ some) (chain-16 (x ∷ s) 0 0 r.sequence (conversation_of r (x ∷ s)))

-- 2. the answer, by the number and the place

module _ (r : Record) (a : Answer) where
  pub owed-28 : (n : ℕ) → n ≡ 16 → (a.refusal ≡ n) ⊎ ((a.refusal ≡ n → ⊥) × (0 < a.place.0)) → (b : Answer) → b ≡ answered 28 0 r → b ≡ owed_before r a
  unfolding owed_before
  owed-28 n n-is (inl e) b b-is = rw (eq-eqb _ _ (e ∙ n-is)) b-is
  owed-28 n n-is (inr (o, h)) b b-is = rw (ne_eqb a.refusal 16 (λ e. o (e ∙ sym n-is)), lt-ltb 0 a.place.0 h) b-is

  pub owed-here : (a.refusal ≡ 16 → ⊥) → a.place.0 ≤ 0 → a ≡ owed_before r a
  unfolding owed_before
  owed-here n h = rw (ne_eqb _ _ n, le-ltb 0 a.place.0 h)

-- 3. the whole turn

pub hear-good : (good : Bool) (r : Record) (d t : List ℕ) → good ≡ true → (o : Outcome) → o ≡ reading_token r d t → o ≡ heard_turn good r d t
unfolding reading_token heard_turn
hear-good good r d t e o o_is =
    o_is ∙ ap (λ (b : Bool). decide (limit_rows r ++ token_rows r (length t)) r d (finish r d t (after_first b (judged r t)))) (sym e)

module _ (r : Record) (d t little : List ℕ) (long : 64 ≤ length t) (small : length little ≡ 16) where
  abbrev rows : List Row
  rows = limit_rows r ++ token_rows r (length t)

  abbrev Same : Outcome → Outcome → Type 0
  Same x y = record { answer = owed_before r x.answer; transcript = d } ≡ y

  behind : (j : Judged) → judged r t ≡ j → Same (finish r little t j) (finish r d t (after_first false j))
  unfolding finish owed_before
  behind (halted n zero) e = rw (ne_eqb n 16 (judged-16 r t n 0 e))
  behind (halted n (suc p)) e = let z : 0 < suc p = omega arith in rw (ne_eqb n 16 (judged-16 r t n (suc p) e), lt-ltb 0 (suc p) z)
  behind (whole n c) e = let z : room little < r.used + length t = omega arith in rw (lt-leb (r.used + length t) (room little) z)

  two : (xs : List Row) (x y : Outcome) → without 16 xs ≡ true → (AllTrue xs → Same x y) → Same (decide xs r little x) (decide xs r d y)
  unfolding owed_before
  two [] x y w h = h tt
  two (q ∷ xs) x y w h = go q.test refl (two xs x y (and_r (not (eqb q.number 16)) (without 16 xs) w)) where
    other : eqb q.number 16 ≡ false
    other = not-true (eqb q.number 16) (and_l (not (eqb q.number 16)) (without 16 xs) w)

    go : (b : Bool) → q.test ≡ b → ((AllTrue xs → Same x y) → Same (decide xs r little x) (decide xs r d y))
        → Same (cond q.test (decide xs r little x) (refused r little q.number 0)) (cond q.test (decide xs r d y) (refused r d q.number 0))
    go true e ih = rw e (ih (λ g. h (e, g)))
    go false e ih = rw (e, other)

  both : Same (reading_token r little t) (heard_turn false r d t)
  unfolding reading_token heard_turn
  both = two rows (finish r little t (judged r t)) (finish r d t (after_first false (judged r t))) refl (λ g. behind (judged r t) refl)

  pub hear-owed : (good : Bool) → good ≡ false → (o : Outcome) → o ≡ reading_token r little t → (b : Answer) → b ≡ owed_before r o.answer
      → record { answer = b; transcript = d } ≡ heard_turn good r d t
  hear-owed good e o o_is b b-is =
      ap (λ (x : Answer). record { answer = x; transcript = d }) (b-is ∙ ap (λ (x : Outcome). owed_before r x.answer) o_is) ∙ both
      ∙ ap (λ (x : Bool). heard_turn x r d t) (sym e)

pub ruleset hearings = (hear-good, hear-owed)
