-- A call that writes a message, by its refusal: one law for the six writers. And a message that is put at the transcript's end.
-- Assumes nothing.
use Prim.Native.Nat.{ℕ, ◌+◌, ◌≤◌, min}
use mathlib.Core.Path.{◌≡◌, ap, ◌∙◌}
use mathlib.Core.Bool.{Bool, true, false}
use mathlib.Core.List.{List, [], ◌∷◌, ◌++◌}
use native.Mathlib.Omega.{arith}
use lib.ListN.{length}
use lib.Dec.{leb}
use borrow.Author.Tests.{le-leb}
use Rattle.message.specs.Check.{Row}
use Rattle.message.proofs.Tables.{AllTrue, without}
use Rattle.put.specs.Put.{put}
use Rattle.encode.specs.declared.Heading.{Heading}
use Rattle.std.specs.Prelude.{Option, Some, None}
use Rattle.encode.specs.Encode.{Whole, Contents, size_of, has_kind, encodable, written, told, storing, storing_handed}
use Rattle.encode.proofs.Sizes.{length-encoded}
use Rattle.refusal.specs.declared.Refusal.{Refusal}
use Rattle.refusal.specs.Refusals.{number_of}
use Rattle.conversation.specs.declared.Record.{Record}
use Rattle.conversation.specs.declared.Answer.{Answer}
use Rattle.conversation.specs.Turns.{type_of, place_after, may_write}
use Rattle.conversation.specs.Outcomes.{Outcome, WrittenAs, answered, decide, row, fits, wrote, unchanged, appended}
use Rattle.conversation.specs.Writing.{heading, message_of, stage_rows, then_fits}
use Rattle.conversation.proofs.Sends.{WholeIds, fields_fit}
use Rattle.calls.specs.Calls.{write_refusal, Inside, Ready, Appended}
use Rattle.calls.proofs.Refusals.{call-refused, call-passed, passed-inside, passed-room, measured}
use Rattle.conversation.specs.Claims.{Arrays}

-- a record with other values where a written message changes it
abbrev pub changed : Record → WrittenAs → Record
changed n w = record {
  acceptor = n.acceptor;
  stage = n.stage;
  position = n.position;
  list = n.list;
  count = n.count;
  conversation = n.conversation;
  marks = w.marks;
  common = n.common;
  kept = n.kept;
  metadata = w.metadata;
  requested = w.requested;
  chosen = n.chosen;
  attested = w.attested;
  confirmed = n.confirmed;
  sequence = n.sequence;
  used = n.used;
}

-- a message of a kind that both ends write, and of the size that has passed 16
pub write-ready : (r : Record) (d : List ℕ) (kind : ℕ) (rows : List Row) (size : ℕ) → 0 ≡ write_refusal r kind rows size (length d)
    → without 0 (rows ++ (fits r d size ∷ [])) ≡ true
    → (c : Contents) → size_of c ≡ size → WholeIds c → has_kind c (type_of false kind) ≡ true → has_kind c (type_of true kind) ≡ true → Ready r d kind c
unfolding encodable
write-ready r d kind rows size z sure c s ids e f =
    let l : r.used + size ≤ min (length d) 65535 = passed-room r kind rows size (length d) z sure in
    record {
      inside = passed-inside r kind rows size (length d) z sure;
      can = rw (either r.acceptor) (fields_fit c ids (omega arith));
      room = omega arith;
      fits = omega arith;
    }
  where
    either : (a : Bool) → has_kind c (type_of a kind) ≡ true
    either true = f
    either false = e

-- a call that writes a message, with the tests of its own between 18 and 16
abbrev pub called : Record → List ℕ → ℕ → List Row → Contents → Outcome → Outcome
called r d kind rows c action = decide (stage_rows r kind ++ then_fits rows r d (message_of r kind c)) r d action

module _ (r : Record) (arrays : Arrays r) (d : List ℕ) (kind : ℕ) (rows : List Row) (c : Contents) (size : ℕ)
    (whole : Inside r → AllTrue rows → Whole c × (size_of c ≡ size)) where
  by_length : (action : Outcome) → decide (stage_rows r kind ++ (rows ++ (fits r d size ∷ []))) r d action ≡ called r d kind rows c action
  by_length =
      measured r d kind rows size (length (message_of r kind c))
      (λ i t. let w = whole i t in length-encoded (heading r kind) arrays.conversation c w.0 ∙ w.1)

  pub write-refused : (e : Refusal) → number_of e ≡ write_refusal r kind rows size (length d) → (a : Answer) → a ≡ answered (number_of e) 0 r
      → (action : Outcome)
      → ◌≡◌ {A = Outcome} (record { answer = a; transcript = d }) (called r d kind rows c action)
  unfolding write_refusal
  write-refused e e-is a a-is action =
      rw a-is (call-refused r (row 18 (may_write r kind) ∷ (rows ++ (fits r d size ∷ []))) e e-is d action ∙ by_length action)

  module _ (z : 0 ≡ write_refusal r kind rows size (length d)) (sure : without 0 (rows ++ (fits r d size ∷ [])) ≡ true) where
    pub write-passed : (action : Outcome) → action ≡ called r d kind rows c action
    unfolding write_refusal
    write-passed action = call-passed r (row 18 (may_write r kind) ∷ (rows ++ (fits r d size ∷ []))) sure z d action ∙ by_length action

    -- w says what the call changes in the record after the message
    pub write-written : (w : Record → WrittenAs) (v : Contents) → v ≡ c → (d' : List ℕ) (next : Record) → Appended r d kind v d' next → (a : Answer)
        → a ≡ answered 0 0 (changed next (w next))
        → ◌≡◌ {A = Outcome} (record { answer = a; transcript = d' })
        (called r d kind rows c
        (appended r d (place_after r kind) (message_of r kind c) (w (wrote r (place_after r kind) (length (message_of r kind c)) (unchanged r)))))
    write-written w v v-is d' next y a a-is =
        let x : Appended r d kind c d' next = rw v-is at y in
        rw (a-is, x.counted, x.holds)
        (write-passed
        (appended r d (place_after r kind) (message_of r kind c) (w (wrote r (place_after r kind) (length (message_of r kind c)) (unchanged r)))))

-- ---- a message at the transcript's end
stored : (s : Option ℕ) (d e : List ℕ) (k : ℕ) → told s d ≡ written k e → d ≡ e
stored (Some j) d e k h = cc
stored None d e k h = let z : ◌≡◌ {A = ℕ} 0 1 = cc in absurd (omega arith)

pub appends : (r : Record) → Arrays r → (d : List ℕ) (kind : ℕ) (c : Contents) → Whole c → Ready r d kind c → (h : Heading) → h ≡ heading r kind
    → (s : Option ℕ) (d' : List ℕ) (v : Contents) → told s d' ≡ storing d r.used h v → v ≡ c → (next : Record)
    → next ≡ wrote r (place_after r kind) (size_of c) (unchanged r)
    → Appended r d kind c d' next
unfolding storing
appends r arrays d kind c whole ready h h-is s d' v t v-is next n-is =
    let l : length (message_of r kind c) ≡ size_of c = length-encoded (heading r kind) arrays.conversation c whole in
    let f : leb (r.used + length (message_of r kind c)) (length d) ≡ true = rw l (le-leb _ _ ready.fits) in
    record {
      counted = n-is ∙ rw l;
      holds =
          stored s d' (put d r.used (message_of r kind c)) (r.used + length (message_of r kind c))
          (t ∙ ap (λ (g : Heading). storing d r.used g v) h-is ∙ ap (storing d r.used (heading r kind)) v-is ∙ simp (ready.can, f));
    }

-- what is handed over apart and keeps its limits is stored as a list; its size is that of the code
pub handed-appends : (r : Record) → Arrays r → (d : List ℕ) (kind : ℕ) (c : Contents) → Whole c → Ready r d kind c → (b : Bool) → b ≡ true
    → (h : Heading) → h ≡ heading r kind
    → (s : Option ℕ) (d' : List ℕ) (v : Contents) → told s d' ≡ storing_handed b d r.used h v → v ≡ c → (size : ℕ) → size ≡ size_of c → (next : Record)
    → next ≡ wrote r (place_after r kind) size (unchanged r)
    → Appended r d kind c d' next
unfolding storing_handed
handed-appends r arrays d kind c whole ready b keeps h h-is s d' v t v-is size size_is next n-is =
    appends r arrays d kind c whole ready h h-is s d' v (t ∙ rw keeps) v-is next
    (n-is ∙ ap (λ (k : ℕ). wrote r (place_after r kind) k (unchanged r)) size_is)
