-- A refused call leaves record and transcript as they were, but for the stage of a record that 12 closes: every call, on every record.
-- Assumes nothing.
use Prim.Native.Nat.{ℕ, ◌+◌, ◌^◌}
use mathlib.Core.Path.{◌≡◌, refl}
use mathlib.Core.Bool.{Bool, true, false}
use mathlib.Core.List.{List, ◌++◌}
use lib.ListN.{length}
use lib.Dec.{leb}
use borrow.Author.Tests.{ne_eqb}
use Rattle.message.specs.Check.{Row}
use Rattle.conversation.specs.declared.Record.{Record}
use Rattle.schemes.specs.Lists.{Id, place}
use Rattle.schemes.specs.Sets.{left, named}
use Rattle.conversation.specs.State.{own_of, limit_rows}
use Rattle.conversation.specs.Turns.{NEGO, METADATA, place_after}
use Rattle.conversation.specs.Outcomes.{Outcome, decide, room, WrittenAs, unchanged, appended}
use Rattle.conversation.specs.Writing.{stage_rows, then_fits, offered, offer_rows, reply_message, reply_rows, naming, metadata_message, metadata_rows, named_rows, offering, replying, writing_metadata, speaking, spoken, class_in, speech_fits, spoken_as}
use Rattle.conversation.specs.Reading.{Judged, whole, halted, judged, finish, token_rows, reading_token}
use Rattle.conversation.specs.Choosing.{open_to, chose, choosing}
use Rattle.conversation.specs.Runs.{Call, offer, reply, metadata, speak, read, choose, End, act}
use Rattle.conversation.specs.Claims.{Unchanged, RefusedUnchanged}
use Rattle.message.proofs.Tables.{without, fails-other}
use Rattle.conversation.proofs.Rows.{decide-out}
use Rattle.conversation.proofs.Chosen.{choice_table}

-- a call whose table has no 12, and whose action keeps this
decided : (rows : List Row) (r : Record) (d : List ℕ) (action : Outcome) → without 12 rows ≡ true → Unchanged r d action
    → Unchanged r d (decide rows r d action)
decided rows r d action w h = decide-out (Unchanged r d) rows r d action (λ n f z. (rw (ne_eqb n 12 (fails-other 12 rows n w f)), refl)) (λ g. h)

finished : (r : Record) (d t : List ℕ) (j : Judged) → Unchanged r d (finish r d t j)
unfolding finish
finished r d t (halted n p) = λ z. (refl, refl)
finished r d t (whole n c) = go (leb (r.used + length t) (room d)) refl where
  go : (b : Bool) → leb (r.used + length t) (room d) ≡ b → Unchanged r d (finish r d t (whole n c))
  go true e = rw e (λ z. absurd {0} (z refl))
  go false e = rw e (λ z. (refl, refl))

-- a writer: what it does where no row refuses it is no refusal
wrote-unchanged : (rows : List Row) (r : Record) (d : List ℕ) (position : ℕ) (m : List ℕ) (w : WrittenAs) → without 12 rows ≡ true
    → Unchanged r d (decide rows r d (appended r d position m w))
wrote-unchanged rows r d position m w v = decided rows r d (appended r d position m w) v (λ z. absurd {0} (z refl))

named-unchanged : (rows : List Row) (r : Record) (d : List ℕ) (l : List Id) (o : Outcome) → without 12 rows ≡ true → o.answer.refusal ≡ 0
    → Unchanged r d (decide rows r d (naming l o))
named-unchanged rows r d l o v e = decided rows r d (naming l o) v (λ z. absurd {0} (z e))

module _ (e : End) (peer : List ℕ) where
  abbrev r : Record
  r = e.record_of

  abbrev d : List ℕ
  d = e.transcript

  unchanged-behind : (k : Call) → Unchanged r d (act e peer k)
  unfolding act offering replying writing_metadata speaking reading_token choosing
  unchanged-behind (offer nego) =
      wrote-unchanged (stage_rows r NEGO ++ then_fits (offer_rows r nego.0) r d (offered r nego.0)) r d (place_after r NEGO) (offered r nego.0)
      (unchanged r) refl
  unchanged-behind (reply m nego) =
      named-unchanged (stage_rows r NEGO ++ then_fits (reply_rows r m nego.0) r d (reply_message r m nego.0)) r d
      (left (own_of r) r.common m)
      (appended r d (place_after r NEGO) (reply_message r m nego.0)
      (record { marks = m; metadata = r.metadata; requested = r.requested; attested = r.attested })) refl refl
  unchanged-behind (metadata id value) =
      wrote-unchanged (stage_rows r METADATA ++ then_fits (metadata_rows r id.0 (length value)) r d (metadata_message r id.0 value)) r d
      (place_after r METADATA) (metadata_message r id.0 value)
      (record { marks = r.marks; metadata = r.metadata + 2 ^ place (own_of r) id.0; requested = r.requested; attested = r.attested }) refl
  unchanged-behind (speak s) =
      wrote-unchanged (stage_rows r (class_in s) ++ then_fits (named_rows r (speech_fits s)) r d (spoken r s)) r d (place_after r (class_in s)) (spoken r s)
      (spoken_as r s) refl
  unchanged-behind read =
      decided (limit_rows r ++ token_rows r (length peer)) r d (finish r d peer (judged r peer)) refl (finished r d peer (judged r peer))
  unchanged-behind (choose m s) =
      named-unchanged (choice_table r d m s) r d
      (named (own_of r) (open_to r m)) (appended (chose r m) d (place_after (chose r m) (class_in s)) (spoken (chose r m) s) (spoken_as (chose r m) s))
      refl refl

pub refused-unchanged : RefusedUnchanged
refused-unchanged e peer k = unchanged-behind e peer k
