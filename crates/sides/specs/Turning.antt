-- One turn, played: its reader reads it, and its writer goes on as if it had written it. Document 02, C-19.
--
-- Glossary
--   same_list l k   two lists have the same schemes in the same order
--   with_marks m r  the record r with the marks m
--   begun m w       the record in which the writer w, whose marks are m, writes the first message of its turn
--   owed m w t      28: the first message of the token t is what the list and marks of its writer w give
--   after_first     28, after the first message's 15 and before the next message
--   heard_turn      the reader's outcome: as of any token, with 28 in it
--   said_as, said   what a message changes in its writer's record, and the record after it; said_all: after messages
--   spoke           the writer's record after its turn
use Rattle.std.specs.Prelude.{ℕ, zero, suc, Bool, true, false, cond, ◌&&◌, ◌||◌, List, [], ◌∷◌, ◌++◌, length, eqb, ltb}
use Rattle.octets.specs.Octets.{same_octets}
use Rattle.message.specs.Layout.{head_of}
use Rattle.schemes.specs.Lists.{Id, place, join_ids}
use Rattle.schemes.specs.Answers.{with_bit}
use Rattle.conversation.specs.declared.Record.{Record}
use Rattle.conversation.specs.State.{own_of, replied, limit_rows}
use Rattle.conversation.specs.Turns.{FIRST, ANSWER, METADATA, EXCHANGE, VERIFY, class_of, writes, place_after}
use Rattle.conversation.specs.Outcomes.{Outcome, decide, WrittenAs, wrote}
use Rattle.conversation.specs.Writing.{some_left, first_or}
use Rattle.conversation.specs.Admitting.{scheme_in, listed_by}
use Rattle.conversation.specs.Reading.{Judged, whole, halted, judged, finish, token_rows}
use Rattle.conversation.specs.Choosing.{open_to, chose, may_choose}
use Rattle.schemes.specs.Sets.{named}

-- ids have 16 octets each
abbrev pub same_list : List Id → List Id → Bool
same_list l k = same_octets (join_ids l) (join_ids k)

abbrev pub with_marks : ℕ → Record → Record
with_marks m r = record {
  acceptor = r.acceptor;
  stage = r.stage;
  position = r.position;
  list = r.list;
  count = r.count;
  conversation = r.conversation;
  marks = m;
  common = r.common;
  kept = r.kept;
  metadata = r.metadata;
  requested = r.requested;
  chosen = r.chosen;
  attested = r.attested;
  confirmed = r.confirmed;
  sequence = r.sequence;
  used = r.used;
}

-- document 01: "Marks come with the call that writes the acceptor's NEGO or chooses": the first of its turn
unfoldable pub begun : ℕ → Record → Record
begun m w = cond (may_choose w) (chose w m) (cond (eqb (writes w) ANSWER) (with_marks m w) w)

-- "28 .. where a NEGO's schemes or the initiator's choice aren't what that end's list and marks give, or these leave none". A NEGO, and the initiator's
-- first later message, is the first of its turn: elsewhere 14 refuses it.
unfoldable pub owed : ℕ → Record → List ℕ → Bool
owed m w t =
    cond (eqb (writes w) FIRST) (same_list (listed_by t) (own_of w))
    (cond (eqb (writes w) ANSWER) (some_left (replied (with_marks m w)) && same_list (listed_by t) (replied (with_marks m w)))
    (cond (may_choose w) (some_left (named (own_of w) (open_to w m)) && same_octets (scheme_in t) (first_or (named (own_of w) (open_to w m))))
    true))

-- "with 28 behind 15": a refusal at place 0 is the first message's, and any other comes after it
abbrev pub after_first : Bool → Judged → Judged
after_first true j = j
after_first false (halted number zero) = halted number zero
after_first false (halted number (suc place)) = halted 28 0
after_first false (whole n c) = halted 28 0

-- "then those of 01": 18, 1, message by message, 16; the writer's messages "are checked as its peer would read them"
unfoldable pub heard_turn : Bool → Record → List ℕ → List ℕ → Outcome
heard_turn ok r d t = decide (limit_rows r ++ token_rows r (length t)) r d (finish r d t (after_first ok (judged r t)))

-- as the calls that write a message of this class, and name this scheme
abbrev pub said_as : Record → ℕ → Id → WrittenAs
said_as w class id = record {
  marks = w.marks;
  metadata = cond (eqb class METADATA && ltb (place (own_of w) id) w.count) (with_bit w.metadata (place (own_of w) id)) w.metadata;
  requested = cond (eqb class EXCHANGE && eqb (writes w) FIRST) 0 w.requested;
  attested = eqb class VERIFY || w.attested;
}

unfoldable pub said : Record → List ℕ → Record
said w m =
    wrote w (place_after w (class_of w.acceptor (head_of m).kind)) (length m)
    (said_as w (class_of w.acceptor (head_of m).kind) (scheme_in m))

unfoldable pub said_all : Record → List (List ℕ) → Record
said_all w [] = w
said_all w (m ∷ ms) = said_all (said w m) ms

abbrev pub spoke : ℕ → Record → List (List ℕ) → Record
spoke m w ms = said_all (begun m w) ms
