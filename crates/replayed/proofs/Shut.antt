-- An end that a critical extension has closed: it reads no more, and what it was to read stays unread.
-- Assumes nothing.
use Prim.Native.Nat.{ℕ, ◌+◌, ◌<◌, ◌≤◌}
use mathlib.Core.Path.{◌≡◌, refl, sym, ap, subst, ◌∙◌}
use mathlib.Core.Bool.{Bool, true, false, cond, ◌&&◌}
use mathlib.Core.Logic.{inl, inr}
use mathlib.Core.List.{List, [], ◌∷◌, ◌++◌, append-nil}
use native.Mathlib.Omega.{arith}
use lib.ListN.{length, length-append}
use lib.Dec.{eqb, leb}
use borrow.Author.Tests.{ne_eqb}
use Rattle.octets.proofs.Bools.{which, no_true}
use Rattle.message.specs.Layout.{head_of}
use Rattle.message.specs.Check.{Row, FirstFails, first_failing, common_rows}
use Rattle.message.proofs.Tables.{AllTrue, given, refuses-first, without, fails-other}
use Rattle.token.specs.Token.{refused as cut_at, passes, order_rows, next_rows}
use Rattle.token.specs.Split.{join}
use Rattle.token.proofs.Cuts.{turn-fail}
use Rattle.conversation.specs.declared.Record.{Record}
use Rattle.conversation.specs.State.{limit_rows}
use Rattle.conversation.specs.Outcomes.{Outcome, closed_by, row, room}
use Rattle.conversation.specs.Reading.{conversation_of, start_of, Judged, whole, halted, judge, chain_for, judged, token_rows, finish, reading_token}
use Rattle.conversation.specs.Runs.{Call, read, End, act, moved, World, next, is_accepted}
use Rattle.conversation.specs.Claims.{is_reading, added_by, added_at}
use Rattle.conversation.specs.Logs.{added}
use Rattle.conversation.proofs.Rows.{decide-out, true-behind, fails-until}
use Rattle.conversation.proofs.Unchanged.{refused-unchanged}
use Rattle.conversation.proofs.Closed.{closed-refuses}
use Rattle.sides.specs.Replay.{Case, Sides}
use Rattle.sides.proofs.Turns.{of_side}
use Rattle.replayed.proofs.Steps.{Past, none_yet, begun-before, Good, Stale, fresh-reader, had-turn}

-- 1. when a reading answers 12

-- the token is judged so
reading-12 : (r : Record) (d t : List ℕ) → (reading_token r d t).answer.refusal ≡ 12 → (p : ℕ) × (judged r t ≡ halted 12 p)
unfolding reading_token
reading-12 r d t =
    let rows : List Row = limit_rows r ++ token_rows r (length t) in
    decide-out (λ out. out.answer.refusal ≡ 12 → (p : ℕ) × (judged r t ≡ halted 12 p)) rows r d (finish r d t (judged r t))
    (λ n g e. absurd (fails-other 12 rows n refl g e))
    (λ g. token (judged r t) refl) where
      token : (j : Judged) → judged r t ≡ j → (finish r d t j).answer.refusal ≡ 12 → (p : ℕ) × (judged r t ≡ halted 12 p)
      token (halted n p) is = unfold finish in (λ e. (p, is ∙ ap (λ (k : ℕ). halted k p) e))
      token (whole n c) is = unfold finish in elim (which (leb (r.used + length t) (room d))) [
        | inl b ↦ rw b (λ e. absurd (omega arith))
        | inr b ↦ rw b (λ e. absurd (omega arith))
      ]

halted-number : (n p m q : ℕ) → halted n p ≡ halted m q → n ≡ m
halted-number n p m q e = cc

-- not of an empty token, which is 2
empty-12 : (r : Record) (d t : List ℕ) → t ≡ [] → (reading_token r d t).answer.refusal ≡ 12 → ⊥
unfolding judged judge
empty-12 r d t none e =
    let h = reading-12 r d t e in
    let is : judged r [] ≡ halted 12 h.0 = subst (λ (s : List ℕ). judged r s ≡ halted 12 h.0) none h.1 in
    absurd (let z = halted-number 2 0 12 h.0 is in omega arith)

-- nor of one that begins with another number than is expected, which is 7 or less
order_row : (t : List ℕ) (q : ℕ) (v : List ℕ)
    → (rest : List Row) × (next_rows t q v ≡ common_rows (length t) (head_of t) ++ (row 7 (eqb (head_of t).sequence q) ∷ rest))
unfolding next_rows order_rows
order_row t q v = (_, refl)

without-common : (n : ℕ) (t : List ℕ) (b : Bool) → without 12 (common_rows n (head_of t) ++ (row 7 b ∷ [])) ≡ true
unfolding common_rows
without-common n t b = refl

number-12 : (t : List ℕ) (q : ℕ) (v : List ℕ) → ((head_of t).sequence ≡ q → ⊥) → (passes t q v ≡ false) × (first_failing (next_rows t q v) ≡ 12 → ⊥)
number-12 t q v other =
    let o = order_row t q v in
    let b : eqb (head_of t).sequence q ≡ false = ne_eqb _ _ other in
    let fails : passes t q v ≡ false = elim (which (passes t q v)) [
      | inr e ↦ e
      | inl e ↦ no_true
          (sym b ∙ true-behind (common_rows (length t) (head_of t)) (row 7 (eqb (head_of t).sequence q)) o.0
          (subst AllTrue o.1 (given (next_rows t q v) e)))
    ] in (
      fails,
      λ e.
          let g : FirstFails (first_failing (next_rows t q v)) (common_rows (length t) (head_of t) ++ (row 7 (eqb (head_of t).sequence q) ∷ o.0)) =
          subst (FirstFails (first_failing (next_rows t q v))) o.1 (refuses-first (next_rows t q v) fails) in
          fails-other 12 (common_rows (length t) (head_of t) ++ (row 7 (eqb (head_of t).sequence q) ∷ [])) (first_failing (next_rows t q v))
          (without-common (length t) t (eqb (head_of t).sequence q))
          (fails-until (common_rows (length t) (head_of t)) (row 7 (eqb (head_of t).sequence q)) o.0 (first_failing (next_rows t q v)) b g) e,
    )

another-12 : (r : Record) (d t : List ℕ) → 40 ≤ length t → ((head_of t).sequence ≡ r.sequence → ⊥) → (reading_token r d t).answer.refusal ≡ 12 → ⊥
unfolding judged judge
another-12 r d t long other e =
    let h = reading-12 r d t e in
    let v : List ℕ = conversation_of r t in
    let some : length t ≡ 0 → ⊥ = λ z. omega arith in
    let n = number-12 t r.sequence v other in
    let chain : chain_for r t ≡ cut_at (first_failing (next_rows t r.sequence v)) 0 =
    rw (ne_eqb _ _ some) (turn-fail 0 r.sequence v t (omega arith) n.0) in
    let is : halted (first_failing (next_rows t r.sequence v)) 0 ≡ halted 12 h.0 = sym (ap (judge r t 0 (start_of r)) chain) ∙ h.1 in
    n.1 (halted-number _ 0 12 h.0 is)

past-12 : (e f : End) → Past e f → (reading_token e.record_of e.transcript f.turn).answer.refusal ≡ 12 → ⊥
past-12 e f (none_yet t n) h = empty-12 e.record_of e.transcript f.turn t h
past-12 e f (begun-before l n) h = another-12 e.record_of e.transcript f.turn l (λ z. omega arith) h

as-reading : (e : End) (peer : List ℕ) → (act e peer read).answer.refusal ≡ 12
    → (reading_token e.record_of e.transcript peer).answer.refusal ≡ 12
unfolding act
as-reading e peer h = h

pub parted-12 : (e f : End) → Past e f → (act e f.turn read).answer.refusal ≡ 12 → ⊥
parted-12 e f p h = past-12 e f p (as-reading e f.turn h)

module _ (c : Case) (s₀ : Sides) (v : List ℕ) (x : Bool) (e f : End) (le lf we wf re rf : List (List ℕ))
    (g : Good c s₀ v x e f le lf we wf re rf) where
  -- the writer has read all that the other wrote
  pub writer-12 : (act e f.turn read).answer.refusal ≡ 12 → ⊥
  writer-12 h = go g.stale where
    go : Stale e f → ⊥
    go (had-turn p) = parted-12 e f p h
    go (fresh-reader t r st p) = empty-12 e.record_of e.transcript f.turn t (as-reading e f.turn h)

  -- the reader has something to read
  pub reader-12 : (act f e.turn read).answer.refusal ≡ 12 → length rf < length we
  reader-12 h = go g.own refl where
    go : (own : List (List ℕ)) → g.own ≡ own → length rf < length we
    go [] is = absurd (empty-12 f.record_of f.transcript e.turn (g.turn ∙ ap join is) (as-reading f e.turn h))
    go (m ∷ ms) is = omega (arith, ap length g.wrote-e, ap length g.read-f, length-append (of_side x g.turns) g.own, ap length is)

-- 2. a closed end

pub record Shut (e : End) (wf re : List (List ℕ)) : Type 0 where
  pub closed : e.record_of.stage ≡ 4
  pub unread : length re < length wf

pub shuts : (e : End) (peer : List ℕ) (wf re : List (List ℕ)) → (act e peer read).answer.refusal ≡ 12 → length re < length wf
    → Shut (moved e read (act e peer read)) wf re
shuts e peer wf re h low = record {
  closed =
      ap (λ (r : Record). r.stage) (refused-unchanged e peer read (λ z. omega (arith, h))).0 ∙ ap (λ (n : ℕ). (closed_by n e.record_of).stage) h;
  unread = low;
}

-- it stays so, whatever it is asked
own-call : (e : End) (peer : List ℕ) (k : Call) → e.record_of.stage ≡ 4
    → ((moved e k (act e peer k)).record_of.stage ≡ 4) × (added_by is_reading e peer k ≡ [])
own-call e peer k st =
    let is = closed-refuses e peer k st in (
      ap (λ (o : Outcome). o.answer.next.stage) is ∙ st,
      ap (λ (o : Outcome). cond (is_reading k && is_accepted o.answer) (added e peer k) []) is
          ∙ none (is_reading k),
    ) where
      none : (b : Bool) → cond (b && false) (added e peer k) [] ≡ []
      none true = refl
      none false = refl

longer : (l m : List (List ℕ)) → length l ≤ length (l ++ m)
longer l m = omega (arith, length-append l m)

pub shut-initiator : (w : World) (y : Bool) (k : Call) (sort : Call → Bool) (wa ri : List (List ℕ)) → Shut w.i wa ri
    → Shut (next w y k).i (wa ++ added_at sort true w y k) (ri ++ added_at is_reading false w y k)
shut-initiator w false k sort wa ri s =
    let o = own-call w.i w.a.turn k s.closed in
    record {
      closed = o.0;
      unread = (let n = ap length o.1 in omega (arith, s.unread, length-append ri (added_at is_reading false w false k), longer wa []));
    }
shut-initiator w true k sort wa ri s =
    record { closed = s.closed; unread = omega (arith, s.unread, ap length (append-nil ri), longer wa (added_at sort true w true k)) }

pub shut-acceptor : (w : World) (y : Bool) (k : Call) (sort : Call → Bool) (wi ra : List (List ℕ)) → Shut w.a wi ra
    → Shut (next w y k).a (wi ++ added_at sort false w y k) (ra ++ added_at is_reading true w y k)
shut-acceptor w true k sort wi ra s =
    let o = own-call w.a w.i.turn k s.closed in
    record {
      closed = o.0;
      unread = (let n = ap length o.1 in omega (arith, s.unread, length-append ra (added_at is_reading true w true k), longer wi []));
    }
shut-acceptor w false k sort wi ra s =
    record { closed = s.closed; unread = omega (arith, s.unread, ap length (append-nil ra), longer wi (added_at sort false w false k)) }
