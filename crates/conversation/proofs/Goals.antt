-- A call at either end of a run: what every call keeps, and what the calls that both ends answer alike say.
-- Assumes nothing.
use Prim.Native.Nat.{ℕ, zero, suc, ◌+◌, ◌≤◌}
use mathlib.Core.Path.{◌≡◌, refl, sym}
use mathlib.Core.Bool.{Bool, true, false, cond, not, ◌&&◌}
use mathlib.Core.Logic.{inl, inr}
use mathlib.Core.List.{List, [], ◌∷◌, ◌++◌}
use native.Mathlib.Omega.{arith}
use lib.ListN.{length}
use lib.Dec.{eqb, leb}
use borrow.Author.Tests.{eqb-true, ne_eqb}
use Rattle.octets.proofs.Bools.{which, no_true}
use Rattle.message.specs.Check.{Row, FirstFails}
use Rattle.put.specs.Put.{put}
use Rattle.schemes.specs.Lists.{Id}
use Rattle.conversation.specs.declared.Record.{Record}
use Rattle.conversation.specs.declared.Answer.{Answer}
use Rattle.conversation.specs.declared.Scan.{Scan}
use Rattle.conversation.specs.State.{limit_rows}
use Rattle.conversation.specs.Turns.{NEGO, METADATA, after_opening, after_further, after, reads, place_after, may_write, may_read}
use Rattle.conversation.specs.Outcomes.{Outcome, answered, refused, decide, row, room, WrittenAs, wrote, appended}
use Rattle.conversation.specs.Writing.{stage_rows, then_fits, some_left, metadata_rows, metadata_message, writing_metadata, named_rows, Speech, request, checksum, alarm, class_in, speech_fits, spoken, spoken_as, speaking}
use Rattle.conversation.specs.Reading.{Judged, whole, halted, judged, taken, finish, token_rows, reading_token}
use Rattle.conversation.specs.Runs.{Sized, Call, metadata, speak, read, End, turn_after, moved}
use Rattle.message.proofs.Tables.{without, fails-other}
use Rattle.conversation.proofs.Rows.{decide-out, true-behind}
use Rattle.conversation.proofs.Tokens.{judged-number}

zero-cond : (b : Bool) → ◌≡◌ {A = ℕ} (cond b 0 0) 0
zero-cond true = refl
zero-cond false = refl

pub positive : (n : ℕ) → not (eqb n 0) ≡ true → 1 ≤ n
positive zero e = no_true e
positive (suc n) e = omega arith

-- nothing is written while no token is
pub none_written : (position : ℕ) (v : Bool) (kind : ℕ) → after 3 position v kind ≡ 0
unfolding after
none_written position v kind = zero-cond (eqb kind 4 && v)

pub no-after : (n : ℕ) → n ≡ 0 → not (eqb n 0) ≡ true → ⊥
no-after n e h = let w = positive n h in omega arith

-- a turn begins with a NEGO
abbrev pub NotFirst : ℕ → Type 0
NotFirst kind = (token : ℕ) (v : Bool) → leb token 1 ≡ true → after token 0 v kind ≡ 0

metadata-not-first : NotFirst METADATA
unfolding after after_opening
metadata-not-first token v e = rw e

speech-not-first : (s : Speech) → NotFirst (class_in s)
unfolding after after_opening
speech-not-first (request value) token v e = rw e
speech-not-first (checksum type value) token true e = refl
speech-not-first (checksum type value) token false e = rw e
speech-not-first (alarm code) token v e = rw e

-- a NEGO stands at the start of the first token or of the reply
pub nego-start : (token position : ℕ) (v : Bool) → not (eqb (after token position v NEGO) 0) ≡ true → (leb token 1 ≡ true) × (position ≡ 0)
unfolding after after_opening after_further
nego-start token position v e = elim (which (leb token 1)) [
  | inl a ↦ elim (which (eqb position 0)) [
    | inl b ↦ (a, eqb-true _ _ b)
    | inr b ↦ no_true (rw (a, b) at e)
  ]
  | inr a ↦ elim (which (eqb token 2)) [
    | inl b ↦ no_true (rw (a, b) at e)
    | inr b ↦ no_true (rw (a, b) at e)
  ]
]

-- A call at an end: what is kept of an end (Inv), of its stage beside the other's (Tog), and what is said of the answer (P)

abbrev pub No17 : Answer → Type 0
No17 a = a.refusal ≡ 17 → ⊥

abbrev pub No12 : Answer → Type 0
No12 a = a.refusal ≡ 12 → ⊥

pub not_some : (l : List Id) → some_left l ≡ false → l ≡ []
not_some [] h = refl
not_some (x ∷ l) h = no_true (sym h)

module _ (e : End) (Inv : End → Type 0) (Tog : ℕ → Type 0) where
  abbrev r : Record
  r = e.record_of

  abbrev d : List ℕ
  d = e.transcript

  pub record Goal (k : Call) (P : Answer → Type 0) (out : Outcome) : Type 0 where
    pub then_ok : Inv (moved e k out)
    pub then-together : Tog out.answer.next.stage
    pub fair : P out.answer

  module _ (ok : Inv e) (tg : Tog r.stage) where
    pub refusal : (k : Call) (P : Answer → Type 0) (n p : ℕ) → (n ≡ 0 → ⊥) → P (answered n p r) → Goal k P (refused r d n p)
    refusal k P n p z h = record { then_ok = rw (ne_eqb n 0 z) ok; then-together = tg; fair = h }

    -- a refusal by a table that has no 17
    pub stopped : (k : Call) (rows : List Row) → without 0 rows ≡ true → without 17 rows ≡ true → (n : ℕ) → FirstFails n rows
        → Goal k No17 (refused r d n 0)
    stopped k rows z s n g = refusal k No17 n 0 (fails-other 0 rows n z g) (λ q. fails-other 17 rows n s g q)

    -- a message that begins no turn
    module _
        (more : (kind : ℕ) (w : WrittenAs) (x d' : List ℕ) → NotFirst kind → may_write r kind ≡ true
        → Inv (record { record_of = wrote r (place_after r kind) (length x) w; transcript = d'; turn = e.turn ++ x })) where
      write : (k : Call) (kind : ℕ) (rows : List Row) (x : List ℕ) (w : WrittenAs) → NotFirst kind → turn_after e k ≡ e.turn ++ x
          → without 0 (then_fits rows r d x) ≡ true → without 17 (then_fits rows r d x) ≡ true
          → Goal k No17 (decide (stage_rows r kind ++ then_fits rows r d x) r d (appended r d (place_after r kind) x w))
      write k kind rows x w nf t z s =
          let table : List Row = stage_rows r kind ++ then_fits rows r d x in
          decide-out (Goal k No17) table r d (appended r d (place_after r kind) x w) (stopped k table z s)
          (λ g. record {
            then_ok = rw t (more kind w x (put d r.used x) nf (true-behind (limit_rows r) (row 18 (may_write r kind)) (then_fits rows r d x) g));
            then-together = tg;
            fair = λ q. omega arith;
          })

      pub metadata-goal : (id : Sized 16) (value : List ℕ) → Goal (metadata id value) No17 (writing_metadata r d id.0 value)
      unfolding writing_metadata
      metadata-goal id value =
          write (metadata id value) METADATA (metadata_rows r id.0 (length value))
          (metadata_message r id.0 value) _ metadata-not-first refl refl refl

      pub speak-goal : (s : Speech) → Goal (speak s) No17 (speaking r d s)
      unfolding speaking
      speak-goal s = write (speak s) (class_in s) (named_rows r (speech_fits s)) (spoken r s) (spoken_as r s) (speech-not-first s) refl refl refl

    -- a reading of the other end's turn so far
    module _ (peer : List ℕ)
        (reads_on : (n : ℕ) (c : Scan) (d' : List ℕ) → may_read r ≡ true → judged r peer ≡ whole n c
        → Inv (record { record_of = taken r peer n c; transcript = d'; turn = [] }) × Tog (reads r + 1)) where
      -- one that is not refused with 12 leaves the record open
      pub read-goal : No12 (reading_token r d peer).answer → Goal read No17 (reading_token r d peer)
      unfolding reading_token
      read-goal =
          let rows : List Row = limit_rows r ++ token_rows r (length peer) in
          decide-out (λ out. No12 out.answer → Goal read No17 out) rows r d (finish r d peer (judged r peer))
          (λ n g ask. stopped read rows refl refl n g)
          (λ g. token (judged r peer) refl (true-behind (limit_rows r) (row 18 (may_read r)) (row 1 (leb (length peer) 65535) ∷ []) g)) where
            token : (j : Judged) → judged r peer ≡ j → may_read r ≡ true → No12 (finish r d peer j).answer → Goal read No17 (finish r d peer j)
            token (halted n p) w h ask =
                unfold finish in (let z = judged-number r peer n p w in rw (ne_eqb n 12 ask) (refusal read No17 n p z.0 z.1.0))
            token (whole n c) w h ask = unfold finish in elim (which (leb (r.used + length peer) (room d))) [
              | inr b ↦ rw b (refusal read No17 16 0 (λ z. omega arith) (λ z. omega arith))
              | inl b ↦ rw b
                  (let g = reads_on n c (put d r.used peer) h w in record { then_ok = g.0; then-together = g.1; fair = λ z. omega arith })
            ]
