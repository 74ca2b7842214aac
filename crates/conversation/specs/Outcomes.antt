-- What a call answers and leaves: one ordered table of refusals, then one action. Document 01, "Refusal numbers".
--
-- Glossary
--   Outcome          an answer, and the lent transcript afterwards; leaving a d: the answer a, which leaves the transcript d
--   zero_id          sixteen zeros: no choice
--   answered n p r   the answer with the number n, the place p and the record r, and nothing else to say
--   refused r d n p  "Each returns its number and the token place of the message at fault": n and p, with the record r and the transcript d
--   closed_by n r    the record after a reading that the number n refuses: closed by 12, else as it was
--   decide           the first row that fails refuses; where all hold, the action; row makes a row
--   room d           "Its room is the smaller of the buffer's length and 65,535."
--   fits             16: used plus the length to add is within the room
--   WrittenAs        what a written message changes in a record beside position, sequence and used; unchanged: nothing; marking m: the marks
--   wrote            the record after a written message
--   appended         a written message at the transcript's end
use Rattle.std.specs.Prelude.{ℕ, ◌+◌, min, Bool, cond, List, [], ◌∷◌, length, replicate, eqb, leb}
use Rattle.message.specs.Check.{Row}
use Rattle.put.specs.Put.{put}
use Rattle.conversation.specs.declared.Record.{Record}
use Rattle.conversation.specs.declared.Answer.{Answer}
use Rattle.conversation.specs.State.{closed}

pub record Outcome : Type 0 where
  pub answer : Answer
  pub transcript : List ℕ

abbrev pub leaving : Answer → List ℕ → Outcome
leaving a d = record { answer = a; transcript = d }

abbrev pub zero_id : List ℕ
zero_id = replicate 16 0

abbrev pub answered : ℕ → ℕ → Record → Answer
answered number place r = record { refusal = number; place = record { 0 = place }; messages = 0; choice = zero_id; left = 0; next = r }

abbrev pub refused : Record → List ℕ → ℕ → ℕ → Outcome
refused r d number place = leaving (answered number place r) d

-- C-18: "Refusal 12 now returns the record closed, everything else in it unchanged"
abbrev pub closed_by : ℕ → Record → Record
closed_by number r = cond (eqb number 12) (closed r) r

abbrev pub decide : List Row → Record → List ℕ → Outcome → Outcome
decide [] r d action = action
decide (x ∷ xs) r d action = cond x.test (decide xs r d action) (refused r d x.number 0)

abbrev pub row : ℕ → Bool → Row
row number test = record { number = number; test = test }

abbrev pub room : List ℕ → ℕ
room d = min (length d) 65535

abbrev pub fits : Record → List ℕ → ℕ → Row
fits r d size = row 16 (leb (r.used + size) (room d))

pub record WrittenAs : Type 0 where
  pub marks : ℕ
  pub metadata : ℕ
  pub requested : ℕ
  pub attested : Bool

abbrev pub unchanged : Record → WrittenAs
unchanged r = record { marks = r.marks; metadata = r.metadata; requested = r.requested; attested = r.attested }

abbrev pub marking : ℕ → Record → WrittenAs
marking m r = record { marks = m; metadata = r.metadata; requested = r.requested; attested = r.attested }

abbrev pub wrote : Record → ℕ → ℕ → WrittenAs → Record
wrote r position size w = record {
  acceptor = r.acceptor;
  stage = r.stage;
  position = position;
  list = r.list;
  count = r.count;
  conversation = r.conversation;
  marks = w.marks;
  common = r.common;
  kept = r.kept;
  metadata = w.metadata;
  requested = w.requested;
  chosen = r.chosen;
  attested = w.attested;
  confirmed = r.confirmed;
  sequence = r.sequence + 1;
  used = r.used + size;
}

-- "Each written message, and each accepted token, is put at its end; no other octet changes."
abbrev pub appended : Record → List ℕ → ℕ → List ℕ → WrittenAs → Outcome
appended r d position message w = leaving (answered 0 0 (wrote r position (length message) w)) (put d r.used message)
