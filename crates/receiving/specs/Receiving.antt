-- What the functions of src/ answer and ask, beside the definitions of a conversation.
--
-- Glossary
--   judged_as          what an answer of src/ says of a token
--   Taking r size n    what the record after a token of n messages relies on
--   with_sets          a record with another common set and other kept places
--   moved_by           what every accepted token changes in a record
--   Judging            what 16 and the record rely on after the messages
--   halted_as          the answer to a token that is halted
use Rattle.std.specs.Prelude.{ℕ, ◌≤◌, ◌≡◌, List, length, Result, Ok, Err}
use Rattle.refusal.specs.Refusals.{number_of}
use Rattle.token.specs.declared.Refused.{Refused}
use Rattle.conversation.specs.declared.Record.{Record}
use Rattle.conversation.specs.declared.Scan.{Scan}
use Rattle.conversation.specs.declared.Answer.{Answer}
use Rattle.conversation.specs.Outcomes.{answered, closed_by}
use Rattle.conversation.specs.Reading.{Judged, whole, halted, judged, taken}
use Rattle.calls.specs.Calls.{Inside}

abbrev pub judged_as : Result (ℕ × Scan) Refused → Judged
judged_as (Ok p) = whole p.0 p.1
judged_as (Err f) = halted (number_of f.refusal) f.place.0

pub record Taking (r : Record) (size n : ℕ) : Type 0 where
  pub inside : Inside r
  pub forty : 40 ≤ size
  pub short : size ≤ 65535
  pub messages : n ≤ size

abbrev pub with_sets : Record → ℕ → List ℕ → Record
with_sets r x k = record {
  acceptor = r.acceptor;
  stage = r.stage;
  position = r.position;
  list = r.list;
  count = r.count;
  conversation = r.conversation;
  marks = r.marks;
  common = x;
  kept = k;
  metadata = r.metadata;
  requested = r.requested;
  chosen = r.chosen;
  attested = r.attested;
  confirmed = r.confirmed;
  sequence = r.sequence;
  used = r.used;
}

-- only the first token and the reply change the common schemes and the kept places
abbrev pub moved_by : Record → List ℕ → ℕ → Scan → Record
moved_by r t n c = with_sets (taken r t n c) r.common r.kept

pub record Judging (r : Record) (t : List ℕ) (j : Result (ℕ × Scan) Refused) : Type 0 where
  pub inside : Inside r
  pub short : length t ≤ 65535
  pub says : judged_as j ≡ judged r t

-- a whole token has no refusal, and 0 stands for that
abbrev pub halted_as : Record → Judged → Answer
halted_as r (whole n c) = answered 0 0 r
halted_as r (halted number place) = answered number place (closed_by number r)
