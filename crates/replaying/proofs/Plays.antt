-- One turn of either side, in the words of the code.
-- Assumes nothing.
use Prim.Native.Nat.{ℕ, ◌+◌, ◌*◌, ◌≤◌}
use mathlib.Core.Path.{◌≡◌, sym, ap, subst, ◌∙◌}
use mathlib.Core.Bool.{Bool, true, false, not}
use mathlib.Core.List.{List}
use native.Mathlib.Omega.{arith}
use Rattle.std.proofs.Common.{Err}
use lib.ListN.{length}
use borrow.Author.Tests.{eq-eqb, ne_eqb, leb-true}
use Rattle.conversation.specs.declared.Record.{Record}
use Rattle.conversation.specs.declared.Answer.{Answer}
use Rattle.conversation.specs.State.{limit_rows}
use Rattle.conversation.specs.Outcomes.{Outcome}
use Rattle.conversation.specs.Reading.{token_rows}
use Rattle.conversation.proofs.Rows.{front-true}
use Rattle.sides.specs.Merging.{messages_of}
use Rattle.sides.specs.Turning.{owed, heard_turn, spoke}
use Rattle.sides.proofs.Heard.{heard-turn}
use Rattle.replaying.specs.declared.Replay.{Replay}
use Rattle.replaying.specs.Playing.{stood, role_of, went_on, ended_with, refused_by, heard_by, after_turn, Level, Ready}

pub level-swap : (w r : Record) → Level w r → Level r w
level-swap w r l = record { few_w = l.few_r; few_r = l.few_w; used = sym l.used; sequence = sym l.sequence }

pub level_by : (x : Bool) (s : Replay) → Level s.initiator s.acceptor → Level (role_of x s) (role_of (not x) s)
level_by false s l = l
level_by true s l = level-swap _ _ l

pub ready-few : (s : Replay) (k n : ℕ) → Ready s k n → (x : Bool) (w : Record) → w ≡ role_of x s → w.count ≤ 16
ready-few s k n ready x w w-is = subst (λ (r : Record). r.count ≤ 16) (sym w-is) (level_by x s ready.level).few_w

-- the numbers that a reader's limits give
record Counts (r : Record) (t : List ℕ) : Type 0 where
  numbers : 64 * r.sequence ≤ r.used
  room : r.used + length t ≤ 65535

counts : (ok : Bool) (r : Record) (d t : List ℕ) → (heard_turn ok r d t).answer.refusal ≡ 0 → Counts r t
counts ok r d t z =
    let h = (heard-turn ok r d t (eq-eqb _ _ z)).1 in
    let (l1, (l2, (l3, (l4, (l5, (l6, (l7, (l8, (l9, (l10, (l11, rest))))))))))) = front-true (limit_rows r) (token_rows r (length t)) h.rows in
    record { numbers = leb-true _ _ l11; room = h.short }

module _ (s : Replay) (x : Bool) (marks : ℕ) (d t : List ℕ) (n : ℕ) (ready : Ready s (length t) n) (w : Record) (w-is : w ≡ role_of x s) (v : Record)
    (v-is : v ≡ role_of (not x) s)
    (good : Bool) (good-is : good ≡ owed marks w t) (a : Answer) (d' : List ℕ)
    (is : ◌≡◌ {A = Outcome} (record { answer = a; transcript = d' }) (heard_turn good v d t)) where
  by_answer : after_turn x marks s d t n ≡ heard_by x marks s t n (record { answer = a; transcript = d' })
  unfolding after_turn
  by_answer =
      ap (heard_by x marks s t n)
      (ap (λ (b : Bool). heard_turn b (role_of (not x) s) d t) (sym (good-is ∙ ap (λ (r : Record). owed marks r t) w-is))
      ∙ ap (λ (r : Record). heard_turn good r d t) (sym v-is) ∙ sym is)

  pub side-refused : (a.refusal ≡ 0 → ⊥) → (r : Replay)
      → r ≡ ended_with s (Err (refused_by x a))
      → stood r d' ≡ after_turn x marks s d t n
  side-refused h r r-is = sym (by_answer ∙ rw (ne_eqb _ _ h) (ap (λ (y : Replay). stood y d') (sym r-is)))

  module _ (z : a.refusal ≡ 0) where
    heard-counts : Counts v t
    heard-counts = counts good v d t (sym (ap (λ (o : Outcome). o.answer.refusal) is) ∙ z)

    level : Level w v
    level = subst (λ (r : Record). Level r v) (sym w-is) (subst (Level (role_of x s)) (sym v-is) (level_by x s ready.level))

    pub side-numbers : 64 * w.sequence ≤ w.used
    side-numbers = omega (arith, heard-counts.numbers, level.used, level.sequence)

    pub side-room : w.used + length t ≤ 65535
    side-room = omega (arith, heard-counts.room, level.used)

    pub side-accepted : (u : Record) → u ≡ spoke marks w (messages_of t) → (r : Replay) → r ≡ went_on x s u a.next (length t) n
        → stood r d' ≡ after_turn x marks s d t n
    side-accepted u u-is r r-is =
        ap (λ (y : Replay). stood y d') r-is
        ∙ sym (by_answer ∙ rw (eq-eqb _ _ z)
        (ap (λ (y : Record). stood (went_on x s y a.next (length t) n) d')
        (sym (u-is ∙ ap (λ (y : Record). spoke marks y (messages_of t)) w-is))))
