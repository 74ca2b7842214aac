-- The initiator's choice, and its first later message with it. Document 01, "Who may send what, and when": "The initiator, given its marks, chooses
-- the first scheme of the reply that it lists and hasn't marked. It chooses once, after the reply and before its later messages." C-12: "marks and the
-- content of an AP_REQUEST, a VERIFY or an ALERT in, chosen scheme, number left and written message out".
--
-- Glossary
--   open_to r m     the own places of the reply's schemes that m does not mark, in the reply's order
--   first_place ks  the first of places, NONE where there is none
--   chose r m       the record after the choice, in which the message is written
--   may_choose r    18: the stage is the one to choose in, and the end is the initiator
--   may_speak       18: the message may be written after the choice
--   choosing        the call; its table: the limits, then choice_rows, 18, 19, 25, 17, 18, then 16
use Rattle.std.specs.Prelude.{ℕ, Bool, not, ◌&&◌, List, [], ◌∷◌, ◌++◌, eqb}
use Rattle.message.specs.Check.{Row}
use Rattle.schemes.specs.Sets.{open_places, named, below}
use Rattle.conversation.specs.declared.Record.{Record}
use Rattle.conversation.specs.State.{NONE, CHOOSING, LATER, own_of, limit_rows}
use Rattle.conversation.specs.Turns.{place_after, may_write}
use Rattle.conversation.specs.Outcomes.{Outcome, decide, row, appended}
use Rattle.conversation.specs.Writing.{then_fits, some_left, naming, Speech, class_in, speech_fits, spoken, spoken_as}

abbrev pub open_to : Record → ℕ → List ℕ
open_to r m = open_places r.kept r.common m

abbrev pub first_place : List ℕ → ℕ
first_place [] = NONE
first_place (k ∷ ks) = k

-- C-15: "Such a VERIFY counts as the end's one only if its scheme is the one chosen": one of before the choice, of either end, is for the scheme at requested
abbrev pub chose : Record → ℕ → Record
chose r m = record {
  acceptor = r.acceptor;
  stage = LATER;
  position = 0;
  list = r.list;
  count = r.count;
  conversation = r.conversation;
  marks = m;
  common = r.common;
  kept = r.kept;
  metadata = r.metadata;
  requested = r.requested;
  chosen = first_place (open_to r m);
  attested = r.attested && eqb (first_place (open_to r m)) r.requested;
  confirmed = r.confirmed && eqb (first_place (open_to r m)) r.requested;
  sequence = r.sequence;
  used = r.used;
}

abbrev pub may_choose : Record → Bool
may_choose r = not r.acceptor && eqb r.stage CHOOSING

-- a VERIFY may not, if the early one counts with this choice
abbrev pub may_speak : Record → ℕ → ℕ → Bool
may_speak r m class = may_write (chose r m) class

-- C-12: "Refusals: 18, 19, 17, 16.", 16 by then_fits; C-15: "a second VERIFY is 18, tested between 17 and 16"; C-22: 25, of a content that keeps its
-- limits or doesn't, "after 19"
abbrev pub choice_rows : Record → ℕ → Bool → ℕ → List Row
choice_rows r m fit class =
    row 18 (may_choose r)
    ∷ row 19 (below r.count m)
    ∷ row 25 fit
    ∷ row 17 (some_left (named (own_of r) (open_to r m)))
    ∷ row 18 (may_speak r m class)
    ∷ []

-- a refusal leaves the record r: nothing is chosen, and nothing is written
unfoldable pub choosing : Record → List ℕ → ℕ → Speech → Outcome
choosing r d m s =
    decide (limit_rows r ++ then_fits (choice_rows r m (speech_fits s) (class_in s)) (chose r m) d (spoken (chose r m) s)) r d
    (naming (named (own_of r) (open_to r m))
    (appended (chose r m) d (place_after (chose r m) (class_in s)) (spoken (chose r m) s) (spoken_as (chose r m) s)))
