-- Metadata, in the words of the code.
-- Assumes nothing.
use Prim.Native.Nat.{ℕ, suc, ◌+◌, ◌^◌, ◌≤◌, ◌<◌}
use mathlib.Core.Path.{◌≡◌, refl, sym, ap, ◌∙◌}
use mathlib.Core.Bool.{Bool, true, false, cond, ◌&&◌}
use mathlib.Core.List.{List, [], ◌∷◌, ◌++◌}
use native.Mathlib.Omega.{arith}
use lib.ListN.{length}
use lib.Dec.{ltb}
use borrow.Author.Tests.{le-leb, lt-leb}
use Rattle.octets.specs.Octets.{same_octets}
use Rattle.message.specs.Check.{first_failing}
use Rattle.message.proofs.Tables.{AllTrue}
use Rattle.message.proofs.Ids.{length_ids}
use Rattle.encode.specs.Encode.{Whole, Contents, of_exchange, size_of}
use Rattle.schemes.specs.Lists.{Id, mem, place, bit}
use Rattle.schemes.specs.Answers.{with_bit}
use Rattle.schemes.proofs.Ids.{mem-place}
use Rattle.refusal.specs.declared.Refusal.{Refusal}
use Rattle.refusal.specs.Refusals.{number_of}
use Rattle.conversation.specs.declared.Record.{Record}
use Rattle.conversation.specs.declared.Answer.{Answer}
use Rattle.conversation.specs.State.{own_of}
use Rattle.conversation.specs.Turns.{type_of}
use Rattle.conversation.specs.Outcomes.{Outcome, answered, row}
use Rattle.conversation.specs.Writing.{metadata_allowed, metadata_rows, writing_metadata}
use Rattle.conversation.proofs.Inside.{place-own, allowed-own, allowed-untold}
use Rattle.calls.specs.Calls.{room_for, stage_refusal, write_refusal, Inside, Ready, Appended}
use Rattle.calls.proofs.Refusals.{write-stage, write-on, passed-inside, passed-own}
use Rattle.conversation.specs.Claims.{Arrays}
use Rattle.calls.proofs.Writes.{changed, write-refused, write-ready, write-written}

-- ---- where a scheme stands
pub place-most : (l : List Id) (s : Id) → place l s ≤ length l
unfolding place
place-most [] s = omega arith
place-most (x ∷ l) s = go (same_octets s x) (place-most l s) where
  go : (b : Bool) → place l s ≤ length l → cond b 0 (suc (place l s)) ≤ suc (length l)
  go true h = omega arith
  go false h = omega arith

-- ---- 15
all : (b : Bool) → b ≡ (b && true)
all true = refl
all false = refl

module _ (r : Record) (id : Id) (p : ℕ) (p-is : p ≡ place (own_of r) id) where
  pub find-few : r.count ≤ 16 → p ≤ 16
  find-few h = omega (arith, p-is, place-most (own_of r) id, length_ids r.count r.list)

  pub told-initiator : (b : Bool) → b ≡ bit r.metadata p → b ≡ false → r.acceptor ≡ false → ltb p r.count ≡ metadata_allowed r id
  told-initiator b b-is once a =
      let q : bit r.metadata (place (own_of r) id) ≡ false = rw (← p-is) (sym b-is ∙ once) in
      let e : ltb p r.count ≡ mem id (own_of r) = rw p-is (sym (mem-place id (own_of r) ∙ rw length_ids)) in
      e ∙ rw (q, a) (all (mem id (own_of r)))

-- ---- the refusals
module _ (r : Record) (id : Id) (v len : ℕ) where
  abbrev refusal : ℕ
  refusal = write_refusal r 2 (metadata_rows r id v) (64 + v) len

  pub meta-stage : (e : Refusal) → number_of e ≡ stage_refusal r 2 → number_of e ≡ refusal
  meta-stage = write-stage r 2 (metadata_rows r id v) (64 + v) len

module _ (r : Record) (id : Id) (v len : ℕ) (z : 0 ≡ stage_refusal r 2) where
  behind : (x : ℕ) → x ≡ first_failing (metadata_rows r id v ++ (row 16 (room_for r.used (64 + v) len) ∷ [])) → x ≡ refusal r id v len
  behind = write-on r 2 (metadata_rows r id v) (64 + v) len z

  pub meta-empty : v < 1 → 19 ≡ refusal r id v len
  meta-empty h = behind 19 (rw (lt-leb 1 v h))

  module _ (some : 1 ≤ v) (b : Bool) (b-is : b ≡ metadata_allowed r id) where
    pub meta-scheme : b ≡ false → 15 ≡ refusal r id v len
    meta-scheme e = behind 15 (rw (le-leb 1 v some, ← b-is, e))

    module _ (t : b ≡ true) (f : Bool) (f-is : f ≡ room_for r.used (64 + v) len) where
      pub meta-crowded : f ≡ false → 16 ≡ refusal r id v len
      meta-crowded e = behind 16 (rw (le-leb 1 v some, ← b-is, t, ← f-is, e))

      pub meta-fits : f ≡ true → 0 ≡ refusal r id v len
      meta-fits e = behind 0 (rw (le-leb 1 v some, ← b-is, t, ← f-is, e))

pub ruleset metadata-refusals = (meta-empty, meta-scheme, meta-crowded, meta-fits)

-- ---- the call, by its refusal
module _ (r : Record) (id : Id) (v len : ℕ) (z : 0 ≡ write_refusal r 2 (metadata_rows r id v) (64 + v) len) where
  pub metadata-inside : Inside r
  metadata-inside = passed-inside r 2 (metadata_rows r id v) (64 + v) len z refl

  allowed : metadata_allowed r id ≡ true
  allowed = (passed-own r 2 (metadata_rows r id v) (64 + v) len z refl).1.0

  pub metadata-place : (p : ℕ) → p ≡ place (own_of r) id → p < 16
  metadata-place p p-is = omega (arith, p-is, place-own r id (allowed-own r id allowed), length_ids r.count r.list, metadata-inside.few)

  metadata-told : (p : ℕ) → p ≡ place (own_of r) id → with_bit r.metadata p ≡ r.metadata + 2 ^ place (own_of r) id
  unfolding with_bit
  metadata-told p p-is = ap (with_bit r.metadata) p-is ∙ rw (allowed-untold r id allowed)

module _ (r : Record) (arrays : Arrays r) (d : List ℕ) (id : Id) (full : length id ≡ 16) (value : List ℕ) where
  abbrev contents : Contents
  contents = of_exchange (record { scheme = id; value = value })

  whole : Inside r → AllTrue (metadata_rows r id (length value)) → Whole contents × (size_of contents ≡ 64 + length value)
  whole i t = (full, refl)

  pub metadata-refused : (e : Refusal) → number_of e ≡ write_refusal r 2 (metadata_rows r id (length value)) (64 + length value) (length d)
      → (a : Answer) → a ≡ answered (number_of e) 0 r
      → ◌≡◌ {A = Outcome} (record { answer = a; transcript = d }) (writing_metadata r d id value)
  unfolding writing_metadata
  metadata-refused e e-is a a-is = write-refused r arrays d 2 (metadata_rows r id (length value)) contents (64 + length value) whole e e-is a a-is _

  module _ (z : 0 ≡ write_refusal r 2 (metadata_rows r id (length value)) (64 + length value) (length d)) where
    pub metadata-ready : Ready r d 2 contents
    unfolding type_of
    metadata-ready = write-ready r d 2 (metadata_rows r id (length value)) (64 + length value) z refl contents refl tt refl refl

    pub metadata-written : (p : ℕ) → p ≡ place (own_of r) id → (t : ℕ) → t ≡ with_bit r.metadata p → (d' : List ℕ) (next : Record)
        → Appended r d 2 contents d' next → (a : Answer)
        → a ≡ answered 0 0 (changed next (record { marks = next.marks; metadata = t; requested = next.requested; attested = next.attested }))
        → ◌≡◌ {A = Outcome} (record { answer = a; transcript = d' }) (writing_metadata r d id value)
    unfolding writing_metadata
    metadata-written p p-is t t-is d' next y a a-is =
        let e : t ≡ r.metadata + 2 ^ place (own_of r) id = t-is ∙ metadata-told r id (length value) (length d) z p p-is in
        write-written r arrays d 2 (metadata_rows r id (length value)) contents (64 + length value) whole z refl
        (λ q. record { marks = q.marks; metadata = r.metadata + 2 ^ place (own_of r) id; requested = q.requested; attested = q.attested }) contents
        refl d' next y a (a-is ∙ rw e)
