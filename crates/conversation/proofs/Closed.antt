-- A closed record: what closes one, and what it then answers.
-- Assumes nothing.
use Prim.Native.Nat.{ℕ, ◌+◌}
use mathlib.Core.Path.{◌≡◌, refl, sym, ap, ◌∙◌}
use mathlib.Core.Bool.{Bool, true, false, not, ◌&&◌, ◌||◌}
use mathlib.Core.Logic.{inl, inr}
use mathlib.Core.List.{List, [], ◌∷◌, ◌++◌}
use native.Mathlib.Omega.{arith}
use lib.ListN.{length}
use lib.Dec.{eqb, leb, ltb}
use borrow.Author.Tests.{eqb-true, eqb-false}
use Rattle.octets.proofs.Bools.{which, no_true, and_i, and_l, and_r}
use Rattle.message.specs.Check.{Row}
use Rattle.conversation.specs.declared.Record.{Record}
use Rattle.conversation.specs.State.{closed, limit_rows}
use Rattle.conversation.specs.Turns.{NEGO, METADATA, writing, reading, reads, may_write, may_read}
use Rattle.conversation.specs.Outcomes.{Outcome, refused, decide, row, room}
use Rattle.conversation.specs.Writing.{stage_rows, then_fits, offered, offer_rows, reply_message, reply_rows, metadata_message, metadata_rows, named_rows, class_in, speech_fits, spoken, offering, replying, writing_metadata, speaking}
use Rattle.conversation.specs.Reading.{Judged, whole, halted, judged, finish, token_rows, reading_token}
use Rattle.conversation.specs.Choosing.{may_choose, choosing}
use Rattle.conversation.specs.Runs.{Call, offer, reply, metadata, speak, read, choose, End, act}
use Rattle.conversation.specs.Claims.{StageOnly, ClosedInside, OnlyTwelveCloses, ClosedRefuses}
use Rattle.conversation.proofs.Unchanged.{refused-unchanged}
use Rattle.conversation.proofs.Rows.{decide-out, each_number, fails-each, fails-until, true-behind}
use Rattle.conversation.proofs.Chosen.{choice_table, choice-passed, choice-barred}
use Rattle.conversation.proofs.Goals.{none_written}

-- 1. all but the stage is as it was, and no limit looks at it

pub stage-only : StageOnly
stage-only r stage = refl

pub closed-inside : ClosedInside
closed-inside r = refl

-- a table whose first rows are all 18, of which one fails
barred : (xs : List Row) (b : Bool) (ys : List Row) (r : Record) (d : List ℕ) (action : Outcome) → each_number (λ n. eqb n 18) xs ≡ true → b ≡ false
    → decide (xs ++ (row 18 b ∷ ys)) r d action ≡ refused r d 18 0
barred xs b ys r d action w f =
    decide-out (λ out. out ≡ refused r d 18 0) (xs ++ (row 18 b ∷ ys)) r d action
    (λ n g. ap (λ (k : ℕ). refused r d k 0)
    (eqb-true n 18 (fails-each (λ k. eqb k 18) (xs ++ (row 18 b ∷ [])) n (each xs w) (fails-until xs (row 18 b) ys n f g))))
    (λ g. no_true (sym f ∙ true-behind xs (row 18 b) ys g)) where
      each : (zs : List Row) → each_number (λ n. eqb n 18) zs ≡ true → each_number (λ n. eqb n 18) (zs ++ (row 18 b ∷ [])) ≡ true
      each [] h = refl
      each (z ∷ zs) h =
          and_i (eqb z.number 18) (each_number (λ n. eqb n 18) (zs ++ (row 18 b ∷ [])))
          (and_l (eqb z.number 18) (each_number (λ n. eqb n 18) zs) h) (each zs (and_r (eqb z.number 18) (each_number (λ n. eqb n 18) zs) h))

module _ (e : End) (peer : List ℕ) where
  abbrev r : Record
  r = e.record_of

  abbrev d : List ℕ
  d = e.transcript

  -- 2. only a reading that is refused with 12 closes

  module _ (unshut : r.stage ≡ 4 → ⊥) where
    -- a call whose action leaves the record open
    stays_open : {A : Type 0} (rows : List Row) (action : Outcome) → (action.answer.next.stage ≡ 4 → ⊥)
        → (decide rows r d action).answer.next.stage ≡ 4 → A
    stays_open rows action h z =
        absurd (decide-out (λ out. out.answer.next.stage ≡ 4 → ⊥) rows r d action (λ n f. unshut) (λ g. h) z)

    -- a token is read into one of the stages before CLOSED
    taken-open : may_read r ≡ true → reads r + 1 ≡ 4 → ⊥
    taken-open h z = let is : reads r ≡ 3 = omega arith in no_true (rw is at h)

    read-closes : (reading_token r d peer).answer.next.stage ≡ 4 → (reading_token r d peer).answer.refusal ≡ 12
    unfolding reading_token
    read-closes =
        decide-out (λ out. out.answer.next.stage ≡ 4 → out.answer.refusal ≡ 12) (limit_rows r ++ token_rows r (length peer)) r d
        (finish r d peer (judged r peer))
        (λ n f z. absurd (unshut z))
        (λ g. token (judged r peer) (true-behind (limit_rows r) (row 18 (may_read r)) (row 1 (leb (length peer) 65535) ∷ []) g)) where
          token : (j : Judged) → may_read r ≡ true → (finish r d peer j).answer.next.stage ≡ 4 → (finish r d peer j).answer.refusal ≡ 12
          token (halted n p) h = unfold finish in elim (which (eqb n 12)) [ inl b ↦ (λ z. eqb-true _ _ b) | inr b ↦ rw b (λ z. absurd (unshut z)) ]
          token (whole n c) h = unfold finish in elim (which (leb (r.used + length peer) (room d))) [
            | inl b ↦ rw b (λ z. absurd (taken-open h z))
            | inr b ↦ rw b (λ z. absurd (unshut z))
          ]

    closes : (k : Call) → (act e peer k).answer.next.stage ≡ 4 → (k ≡ read) × ((act e peer k).answer.refusal ≡ 12)
    unfolding act offering replying writing_metadata speaking choosing
    closes (offer nego) z = stays_open (stage_rows r NEGO ++ then_fits (offer_rows r nego.0) r d (offered r nego.0)) _ unshut z
    closes (reply m nego) z = stays_open (stage_rows r NEGO ++ then_fits (reply_rows r m nego.0) r d (reply_message r m nego.0)) _ unshut z
    closes (metadata id value) z =
        stays_open (stage_rows r METADATA ++ then_fits (metadata_rows r id.0 (length value)) r d (metadata_message r id.0 value)) _ unshut z
    closes (speak s) z = stays_open (stage_rows r (class_in s) ++ then_fits (named_rows r (speech_fits s)) r d (spoken r s)) _ unshut z
    closes read z = (refl, read-closes z)
    closes (choose m s) z = stays_open (choice_table r d m s) _ (λ y. omega arith) z

  -- 3. a closed record refuses every call with 18

  module _ (shut : r.stage ≡ 4) where
    no-token : (a : Bool) → writing a 4 ≡ 3
    unfolding writing
    no-token true = refl
    no-token false = refl

    writes-none : (kind : ℕ) → may_write r kind ≡ false
    writes-none kind = rw (shut, no-token r.acceptor, none_written r.position r.attested kind)

    reads_none : may_read r ≡ false
    unfolding reading
    reads_none = rw shut (go r.acceptor) where
      go : (a : Bool) → (not (eqb (reading a 4) 3)) && (eqb (reading a 4) 0 || ltb 0 r.position) ≡ false
      go true = refl
      go false = refl

    chooses_none : may_choose r ≡ false
    chooses_none = rw shut (go r.acceptor) where
      go : (a : Bool) → not a && false ≡ false
      go true = refl
      go false = refl

    answers-18 : (k : Call) → act e peer k ≡ refused r d 18 0
    unfolding act offering replying writing_metadata speaking reading_token choosing
    answers-18 (offer nego) =
        barred (limit_rows r) (may_write r NEGO) (then_fits (offer_rows r nego.0) r d (offered r nego.0)) r d _ refl (writes-none NEGO)
    answers-18 (reply m nego) =
        barred (limit_rows r) (may_write r NEGO) (then_fits (reply_rows r m nego.0) r d (reply_message r m nego.0)) r d _ refl (writes-none NEGO)
    answers-18 (metadata id value) =
        barred (limit_rows r) (may_write r METADATA) (then_fits (metadata_rows r id.0 (length value)) r d (metadata_message r id.0 value)) r d _ refl
        (writes-none METADATA)
    answers-18 (speak s) =
        barred (limit_rows r) (may_write r (class_in s)) (then_fits (named_rows r (speech_fits s)) r d (spoken r s)) r d _ refl (writes-none (class_in s))
    answers-18 read = barred (limit_rows r) (may_read r) (row 1 (leb (length peer) 65535) ∷ []) r d _ refl reads_none
    answers-18 (choose m s) =
        decide-out (λ out. out ≡ refused r d 18 0) (choice_table r d m s) r d _
        (λ n g. ap (λ (k : ℕ). refused r d k 0) (choice-barred r d m s chooses_none n g))
        (λ g. no_true (sym chooses_none ∙ (choice-passed r d m s g).may))

pub only-twelve-closes : OnlyTwelveCloses
only-twelve-closes e peer k unshut z = closes e peer unshut k z

pub closed-refuses : ClosedRefuses
closed-refuses e peer k h = answers-18 e peer h k

-- so that only a reading is refused with 12
pub only-reading-12 : (e : End) (peer : List ℕ) (k : Call) → (act e peer k).answer.refusal ≡ 12 → k ≡ read
only-reading-12 e peer k h = elim (which (eqb e.record_of.stage 4)) [
  | inl b ↦ absurd (let n = ap (λ (o : Outcome). o.answer.refusal) (closed-refuses e peer k (eqb-true _ _ b)) in omega arith)
  | inr b ↦
      let u = refused-unchanged e peer k (λ z. omega arith) in
      let n : (act e peer k).answer.next ≡ closed e.record_of = rw h at u.0 in
      (only-twelve-closes e peer k (eqb-false _ _ b) (ap (λ (x : Record). x.stage) n)).0
]
