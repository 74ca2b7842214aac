-- An exchange, VERIFY or ALERT of the rule's scheme, in the words of the code.
-- Assumes nothing.
use Prim.Native.Nat.{ℕ, ◌≤◌, ◌<◌}
use mathlib.Core.Path.{◌≡◌, refl, ap, ◌∙◌}
use mathlib.Core.Bool.{Bool, true, false}
use mathlib.Core.List.{List, [], ◌∷◌, ◌++◌}
use lib.ListN.{length}
use Rattle.message.specs.Check.{first_failing}
use Rattle.message.proofs.Tables.{AllTrue}
use Rattle.refusal.specs.declared.Refusal.{Refusal}
use Rattle.refusal.specs.Refusals.{number_of}
use Rattle.encode.specs.Encode.{Whole, Contents, size_of}
use Rattle.conversation.specs.declared.Record.{Record}
use Rattle.conversation.specs.declared.Answer.{Answer}
use Rattle.conversation.specs.State.{scheme_at}
use Rattle.conversation.specs.Turns.{place_after}
use Rattle.conversation.specs.Outcomes.{Outcome, WrittenAs, answered, unchanged, wrote, appended, row}
use Rattle.conversation.specs.Writing.{message_of, scheme_now, scheme_allowed, named_rows}
use Rattle.conversation.proofs.Inside.{now-below}
use Rattle.calls.specs.Calls.{room_for, stage_refusal, write_refusal, Inside, Appended}
use Rattle.calls.proofs.Refusals.{write-stage, write-on, passed-inside, passed-own}
use Rattle.conversation.specs.Claims.{Arrays}
use Rattle.calls.proofs.Writes.{changed, called, write-refused, write-written}
use Rattle.sending.proofs.Schemes.{own-id}

module _ (r : Record) (kind : ℕ) (fit : Bool) (size len : ℕ) where
  pub named-stage : (e : Refusal) → number_of e ≡ stage_refusal r kind → number_of e ≡ write_refusal r kind (named_rows r fit) size len
  named-stage = write-stage r kind (named_rows r fit) size len

  module _ (z : 0 ≡ stage_refusal r kind) where
    behind : (x : ℕ) → x ≡ first_failing (named_rows r fit ++ (row 16 (room_for r.used size len) ∷ []))
        → x ≡ write_refusal r kind (named_rows r fit) size len
    behind = write-on r kind (named_rows r fit) size len z

    pub named-unfit : fit ≡ false → 25 ≡ write_refusal r kind (named_rows r fit) size len
    named-unfit e = behind 25 (rw e)

    module _ (keeps : fit ≡ true) (b : Bool) (b-is : b ≡ scheme_allowed r) where
      pub named-scheme : b ≡ false → 15 ≡ write_refusal r kind (named_rows r fit) size len
      named-scheme e = behind 15 (rw (keeps, ← b-is, e))

      module _ (t : b ≡ true) (f : Bool) (f-is : f ≡ room_for r.used size len) where
        pub named-crowded : f ≡ false → 16 ≡ write_refusal r kind (named_rows r fit) size len
        named-crowded e = behind 16 (rw (keeps, ← b-is, t, ← f-is, e))

        pub named-fits : f ≡ true → 0 ≡ write_refusal r kind (named_rows r fit) size len
        named-fits e = behind 0 (rw (keeps, ← b-is, t, ← f-is, e))

pub ruleset named-refusals = (named-unfit, named-scheme, named-crowded, named-fits)

-- ---- the call, by its refusal, for any contents of a scheme
module _ (r : Record) (kind : ℕ) (fit : Bool) (size len : ℕ) (z : 0 ≡ write_refusal r kind (named_rows r fit) size len) where
  pub named-inside : (r.count ≤ 16) × (scheme_now r < r.count)
  named-inside =
      ((passed-inside r kind (named_rows r fit) size len z refl).few, now-below r (passed-own r kind (named_rows r fit) size len z refl).1.0)

  pub named-keeps : fit ≡ true
  named-keeps = (passed-own r kind (named_rows r fit) size len z refl).0

module _ (r : Record) (arrays : Arrays r) (d : List ℕ) (kind : ℕ) (fit : Bool) (of : List ℕ → Contents)
    (whole_of : (s : List ℕ) → length s ≡ 16 → Whole (of s)) (size : ℕ) (sized : fit ≡ true → size_of (of (scheme_at r (scheme_now r))) ≡ size) where
  abbrev contents : Contents
  contents = of (scheme_at r (scheme_now r))

  whole : Inside r → AllTrue (named_rows r fit) → Whole contents × (size_of contents ≡ size)
  whole i t = (whole_of _ (own-id r arrays i.few (scheme_now r) (now-below r t.1.0)), sized t.0)

  pub named-refused : (e : Refusal) → number_of e ≡ write_refusal r kind (named_rows r fit) size (length d) → (a : Answer)
      → a ≡ answered (number_of e) 0 r → (action : Outcome)
      → ◌≡◌ {A = Outcome} (record { answer = a; transcript = d }) (called r d kind (named_rows r fit) contents action)
  named-refused = write-refused r arrays d kind (named_rows r fit) contents size whole

  pub named-written : 0 ≡ write_refusal r kind (named_rows r fit) size (length d) → (w : Record → WrittenAs) (s : List ℕ) → s ≡ scheme_at r (scheme_now r)
      → (v : Contents) → v ≡ of s
      → (d' : List ℕ) (next : Record) → Appended r d kind v d' next → (a : Answer) → a ≡ answered 0 0 (changed next (w next))
      → ◌≡◌ {A = Outcome} (record { answer = a; transcript = d' })
      (called r d kind (named_rows r fit) contents
      (appended r d (place_after r kind) (message_of r kind contents)
      (w (wrote r (place_after r kind) (length (message_of r kind contents)) (unchanged r)))))
  named-written z w s s-is v v-is = write-written r arrays d kind (named_rows r fit) contents size whole z refl w v (v-is ∙ ap of s-is)
