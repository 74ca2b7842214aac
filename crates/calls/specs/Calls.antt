-- What the calls share: their refusals as a number, what they rely on of a record, and what writing a message asks and leaves. The refusals are those of
-- the conversation's definitions, with the transcript's length and the length to add as numbers.
--
-- Glossary
--   room_for             16: used plus the length to add is within the room of a transcript of a length
--   call_refusal r rows  the first refusal of a call that makes these tests after a record's limits, or 0
--   stage_refusal        18 for a call that writes a class, or 0
--   write_refusal        the first refusal of a call that writes a message of a class and size: 18, the tests of its own, 16; or 0
--   Inside r             what the calls rely on of a record inside its limits
--   Ready r d class c    a message of this class with the contents c may be written into d
--   Appended             a message was put at the transcript's end, and the record counts it
use Rattle.std.specs.Prelude.{ℕ, ◌+◌, ◌^◌, ◌≤◌, ◌<◌, min, ◌≡◌, Bool, true, List, [], ◌∷◌, ◌++◌, length, leb}
use Rattle.message.specs.Check.{Row, first_failing}
use Rattle.put.specs.Put.{put}
use Rattle.encode.specs.Encode.{Contents, size_of, encodable}
use Rattle.schemes.specs.Lists.{distinct}
use Rattle.conversation.specs.declared.Record.{Record}
use Rattle.conversation.specs.State.{own_of, limit_rows}
use Rattle.conversation.specs.Turns.{place_after, may_write}
use Rattle.conversation.specs.Outcomes.{row, wrote, unchanged}
use Rattle.conversation.specs.Writing.{heading, message_of}

-- "used plus the length to add is above the room", "the smaller of the buffer's length and 65,535"
abbrev pub room_for : ℕ → ℕ → ℕ → Bool
room_for used size len = leb (used + size) (min len 65535)

unfoldable pub call_refusal : Record → List Row → ℕ
call_refusal r rows = first_failing (limit_rows r ++ rows)

unfoldable pub stage_refusal : Record → ℕ → ℕ
stage_refusal r class = call_refusal r (row 18 (may_write r class) ∷ [])

-- "Other calls check 18, 19, 15, 17, 16."
unfoldable pub write_refusal : Record → ℕ → List Row → ℕ → ℕ → ℕ
write_refusal r class rows size len = call_refusal r (row 18 (may_write r class) ∷ (rows ++ (row 16 (room_for r.used size len) ∷ [])))

pub record Inside (r : Record) : Type 0 where
  pub few : r.count ≤ 16
  pub different : distinct (own_of r) ≡ true
  pub bound : r.common < 2 ^ r.count
  pub used : r.used ≤ 65535
  pub sequence : r.sequence ≤ 1023

pub record Ready (r : Record) (d : List ℕ) (class : ℕ) (c : Contents) : Type 0 where
  pub inside : Inside r
  pub can : encodable (heading r class) c ≡ true
  pub room : r.used + size_of c ≤ 65535
  pub fits : r.used + size_of c ≤ length d

-- "Each written message .. is put at its end; no other octet changes."
pub record Appended (r : Record) (d : List ℕ) (class : ℕ) (c : Contents) (d' : List ℕ) (next : Record) : Type 0 where
  pub counted : next ≡ wrote r (place_after r class) (length (message_of r class c)) (unchanged r)
  pub holds : d' ≡ put d r.used (message_of r class c)
