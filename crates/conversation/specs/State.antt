-- The conversation record and its limits. Document 01, "The conversation record and the transcript" and "Refusal numbers" (18).
-- The record is the struct of src/.
--
-- Glossary
--   NONE          the place that stands for no place
--   OPENING       a stage: the first token is being written, or waited for
--   REPLY         the acceptor has read it
--   CHOOSING      the initiator has read the reply
--   LATER         the initiator has chosen, or the acceptor has read a later token
--   CLOSED        a reading was refused with 12: every call is refused with 18
--   with_stage    a record at another stage; closed r: the record r at the stage CLOSED
--   own_of r      the own list, as ids; scheme_at: the scheme at an own place
--   replied r     the reply's list: the common schemes less the marks, in the acceptor's order
--   limit_rows r  a record's limits, as one table; limit: a row of it, 18
--   fresh         the record that opening answers
use Rattle.std.specs.Prelude.{ℕ, ◌*◌, ◌/◌, Bool, false, ◌||◌, List, [], ◌∷◌, length, get_or, replicate, eqb, leb, ltb}
use Rattle.message.specs.Show.{ids_at}
use Rattle.message.specs.Check.{Row}
use Rattle.schemes.specs.Lists.{Id, distinct}
use Rattle.schemes.specs.Sets.{left, below, kept_below, pad_to}
use Rattle.conversation.specs.declared.Record.{Record}

abbrev pub NONE : ℕ
NONE = 255

abbrev pub OPENING : ℕ
OPENING = 0

abbrev pub REPLY : ℕ
REPLY = 1

abbrev pub CHOOSING : ℕ
CHOOSING = 2

abbrev pub LATER : ℕ
LATER = 3

-- C-18: "The record gets a closed stage."
abbrev pub CLOSED : ℕ
CLOSED = 4

abbrev pub with_stage : ℕ → Record → Record
with_stage stage r = record {
  acceptor = r.acceptor;
  stage = stage;
  position = r.position;
  list = r.list;
  count = r.count;
  conversation = r.conversation;
  marks = r.marks;
  common = r.common;
  kept = r.kept;
  metadata = r.metadata;
  requested = r.requested;
  chosen = r.chosen;
  attested = r.attested;
  confirmed = r.confirmed;
  sequence = r.sequence;
  used = r.used;
}

abbrev pub closed : Record → Record
closed r = with_stage CLOSED r

abbrev pub own_of : Record → List Id
own_of r = ids_at r.count r.list

abbrev pub scheme_at : Record → ℕ → Id
scheme_at r k = get_or (own_of r) k []

-- "the acceptor into its own the common schemes less its marks, in its own order"
abbrev pub replied : Record → List Id
replied r = left (own_of r) r.common r.marks

abbrev pub limit : Bool → Row
limit test = record { number = 18; test = test }

-- "A record is outside its limits if a list breaks 19, a set or a kept or chosen place goes beyond the list, used is above 65,535, the sequence is
-- above 1,023, or 64 times the sequence is above used."
abbrev pub limit_rows : Record → List Row
limit_rows r =
    limit (leb 1 r.count)
    ∷ limit (leb r.count 16)
    ∷ limit (distinct (own_of r))
    ∷ limit (below r.count r.marks)
    ∷ limit (below r.count r.common)
    ∷ limit (below r.count r.metadata)
    ∷ limit (r.acceptor || kept_below r.count r.kept r.common)
    ∷ limit (eqb r.chosen NONE || ltb r.chosen r.count)
    ∷ limit (leb r.used 65535)
    ∷ limit (leb r.sequence 1023)
    ∷ limit (leb (64 * r.sequence) r.used)
    ∷ []

-- "it answers a fresh record with nothing used"; an acceptor takes the conversation from the first message, and has none before
abbrev pub fresh : Bool → List ℕ → List ℕ → Record
fresh acceptor own conversation = record {
  acceptor = acceptor;
  stage = OPENING;
  position = 0;
  list = pad_to 256 own;
  count = length own / 16;
  conversation = conversation;
  marks = 0;
  common = 0;
  kept = replicate 16 0;
  metadata = 0;
  requested = NONE;
  chosen = NONE;
  attested = false;
  confirmed = false;
  sequence = 0;
  used = 0;
}
