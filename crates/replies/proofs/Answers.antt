-- Answers as signed numbers, and the two outcomes of the structural reading. In the words of the code.
-- Assumes nothing.
use Prim.Native.Nat.{ℕ, zero, suc, ◌-◌, ◌<◌, ◌^◌}
use mathlib.Core.Path.{◌≡◌, refl, sym, ap, subst, ◌∙◌}
use mathlib.Core.Logic.{inl, inr}
use mathlib.Core.List.{List}
use native.Mathlib.Omega.{arith}
use lib.ListN.{length, length-append}
use borrow.Author.Tests.{lt-ltb}
use lib.IntN.{ℤ, pos, neg_ℤ, ◌-ℤ◌}
use mir.Syntax.{w64}
use mir.Val.{SFits, to_z, of_z}
use mir.Facts.{to_z_pos, to_z-of_z}
use Rattle.std.proofs.Common.{Result, Ok, Err, MatchResult}
use Rattle.std.specs.Prelude.{IsErrAnd}
use Rattle.std.proofs.lemmas.Result.{err_from_is_err_and}
use Rattle.refusal.specs.declared.Refusal.{Refusal}
use Rattle.refusal.specs.Refusals.{number_of}
use Rattle.token.specs.declared.Refused.{Refused}
use Rattle.token.specs.Token.{Placed, Reading, token_of, outcome_of, told as Token·told}
use Rattle.token.specs.Split.{join}
use Rattle.token.specs.Walk.{messages_of, Accepts}
use Rattle.token.proofs.Splits.{refused-stops}
use Rattle.token.proofs.Walks.{answer-accepts, answer-number, answer-refuses}
use Rattle.replies.specs.Replies.{Reply, given, refused, and_then, reading_reply, messages_reply, answer_of, lent, written_in, messages_answer, fault_place, place_answer}

-- ---- numbers
minus : (n : ℕ) → pos 0 -ℤ pos n ≡ neg_ℤ (pos n)
minus zero = refl
minus (suc n) = let e : suc n - 1 ≡ n = omega arith in simp (lt-ltb 0 (suc n) (omega arith), e)

module _ (n : ℕ) (h : n < 2 ^ 32) where
  pub negated : pos 0 -ℤ to_z w64 n ≡ neg_ℤ (pos n)
  negated = ap (λ (z : ℤ). pos 0 -ℤ z) (to_z_pos w64 {n = n} (omega arith)) ∙ minus n

  pub negated_fits : SFits w64 (neg_ℤ (pos n))
  negated_fits = go n h where
    go : (k : ℕ) → k < 2 ^ 32 → SFits w64 (neg_ℤ (pos k))
    go zero g = record { sfits = omega arith }
    go (suc k) g = record { sfits = omega arith }

-- a signed number that is handed on
module _ (z : ℤ) (f : SFits w64 z) where
  pub same : (y : ℤ) → z ≡ y → to_z w64 (of_z w64 z) ≡ y
  same y e = to_z-of_z f ∙ e

-- ---- the two outcomes of the structural reading
module _ (s : List ℕ) (r : Result ℕ Refused) (r-is : Token·told r ≡ outcome_of (token_of s)) where
  pub reply-refused : (f : Refused) → r ≡ Err f → messages_reply s ≡ refused (number_of f.refusal)
  reply-refused f here = ap reading_reply (answer-refuses s r r-is f here)

  pub place_none : (n : ℕ) → r ≡ Ok n → pos 0 ≡ place_answer s
  place_none n here = sym (ap (λ (x : Reading). pos (fault_place x)) (answer-accepts s r r-is n here))

  module _ (f : Refused) (here : r ≡ Err f) where
    pub place-fault : pos f.place.0 ≡ place_answer s
    place-fault = sym (ap (λ (x : Reading). pos (fault_place x)) (answer-refuses s r r-is f here))

    pub fault-small : f.place.0 < 2 ^ 63
    fault-small = elim (refused-stops s (number_of f.refusal) f.place.0 (answer-refuses s r r-is f here)) [
      | inl h ↦ omega (arith, h)
      | inr h ↦ elim h [
        | inl g ↦ omega (arith, g)
        | inr g ↦ let (ms, (rest, stop)) = g in omega (arith, stop.place, stop.short, ap length stop.joins, length-append (join ms) rest)
      ]
    ]

pub ruleset answers = (place_none, place-fault, fault-small)

-- ---- what is accepted, and what refuses
abbrev pub Taken : List ℕ → Result ℕ Refusal → Type 0
Taken s r =
    MatchResult r (λ n. Accepts s × (n ≡ length (messages_of (token_of s)))) (λ e. messages_reply s ≡ refused (number_of e))

pub takes : (s : List ℕ) (r : Result ℕ Refused) (q : Result ℕ Refusal) (P : Refused → Refusal → Type 0)
    → ((f : Refused) (e : Refusal) → P f e → e ≡ f.refusal) → Token·told r ≡ outcome_of (token_of s)
    → MatchResult r (λ n. q ≡ Ok n) (λ f. IsErrAnd q (P f)) → Taken s q
takes s (Ok n) q P is e h = subst (Taken s) (sym h) (answer-accepts s (Ok n) e n refl, sym (answer-number s (Ok n) e n refl))
takes s (Err f) q P is e h =
    let w = err_from_is_err_and q h in
    subst (Taken s) (sym w.1) (reply-refused s (Err f) e f refl ∙ ap (λ (x : Refusal). refused (number_of x)) (sym (is f w.0 w.2)))

module _ (s : List ℕ) (n : ℕ) (a : Accepts s) (n-is : n ≡ length (messages_of (token_of s))) where
  pub messages-number : pos n ≡ messages_answer s
  messages-number =
      ap pos n-is ∙ sym (ap (λ (x : Reading). answer_of (and_then (reading_reply x) (λ ms. given (length ms)))) a)

module _ (s : List ℕ) (n : ℕ) (e : messages_reply s ≡ refused n) where
  pub any-refused : (f : List Placed → Reply ℕ) → neg_ℤ (pos n) ≡ answer_of (and_then (messages_reply s) f)
  any-refused f = sym (ap (λ (x : Reply (List Placed)). answer_of (and_then x f)) e)

  pub lent-refused : (f : List Placed → Reply (List ℕ)) (d : List ℕ) → lent (neg_ℤ (pos n)) d ≡ written_in d (and_then (messages_reply s) f)
  lent-refused f d = sym (ap (λ (x : Reply (List Placed)). written_in d (and_then x f)) e)
