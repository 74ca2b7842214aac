-- What is proved of the calls and of runs, a claim to a name. Demand 3 stands in Runs, what every run keeps in Logs, the worked examples in Worked.
--
-- Glossary
--   Unchanged            a refusal that leaves record and transcript as they were, but for the stage of a record that 12 closes
--   RefusedUnchanged     every refused call does, on every record
--   StageOnly            a record at another stage is the same in all else; ClosedInside: a closed one is inside its limits as it was before
--   OnlyTwelveCloses     a record that a call closes is closed by a reading, refused with 12
--   ClosedRefuses        at the stage CLOSED every call is refused with 18, and changes nothing
--   NineNeverRead        no reading into a record is refused with 9
--   is_test              a call that says that it is a test; NoTest cs: none of the calls cs does
--   TwelveNeverRun       no call of a run without a test call is refused with 12
--   CriticalCloses       a record that may read a written message with a critical extension refuses its token with 12 and closes
--   decides              an answer that is no refusal, or that closes the record
--   RefusedStays         a call that does not decide leaves the two ends as they were
--   accepted_of          the calls of a list that are accepted, in order; deciding_of: those that decide
--   DecidingEnds         any two ends after a list of calls are those of its deciding calls alone
--   AcceptedEnds         the two ends of a run without a test call are those of its accepted calls alone
--   OpeningFresh         the records that a run starts with are those that opening answers
--   left_with o ma mi    what rule 2 leaves of the lists of an opening, with the marks of either end; reply_with o m: the reply's list with the acceptor's
--   RuleTwoAnswer        what a choosing call of a run answers, by rule 2
--   ByRule2              every choosing call of every run does
--   NoneRefused          and it is refused with 17 wherever rule 2 leaves nothing
--   ReplyAnswer          what a call of a run that writes the acceptor's NEGO answers, by the reply's list
--   ReplyByMarks         every such call of every run does
--   at_end x y           the entry y of a run is one of the end x; accepted_at: and is accepted, of a sort of calls
--   with_marks           the sort of calls with marks; is_reading: readings
--   MarksOnce            in a run an end has at most one accepted call with marks
--   added_by sort        the messages that an accepted call of a sort adds to its end's; added_at: those of the end x, of a call at the end y; added_in: of a
--                        list of calls
--   written_in, read_in  the messages that the end x writes, and those that it reads, in a list of calls
--   is_verify            a message that is a VERIFY, by its type; verify_for id: one for the scheme id
--   VerifyOnce           of the messages that an end writes in a run at most one is a VERIFY for a scheme
--   record_at x w        the record of the end x; chosen_in r: the scheme that the record r has as chosen
--   FlagSays             once the choice is fixed, the record says whether the VERIFY for the chosen scheme is written
--   HeardOnce            of the messages that an end reads in a run at most one is a VERIFY for a scheme; HeardSays: as FlagSays, of what is read
--   Arrays r             the lengths of a record's arrays, as the struct gives them
--   sent_by r k          the message that a writing call sends: the record's number and conversation, and the call's arguments; sent: one of a class
--   ReadsAsSent          a message stands at the transcript's end and reads as it was sent, whatever follows
--   WrittenReads         demand 2's round trip: what an accepted writing call appended does, on every record
--   ChoiceSpoken         the message of an accepted choosing call is the next one, and names the choice that the call answers
use Rattle.std.specs.Prelude.{ℕ, ◌*◌, ◌≤◌, ◌≡◌, Bool, true, false, cond, not, ◌&&◌, ◌||◌, ◌⊎◌, length, take, eqb}
use mathlib.Core.List.{List, [], ◌∷◌, ◌++◌, Memᴰ}
use Rattle.std.proofs.Math.Option.{Option, none, some}
use Rattle.octets.specs.Octets.{same_octets}
use Rattle.message.specs.Layout.{head_of}
use Rattle.message.specs.Check.{first_failing}
use Rattle.encode.specs.declared.Heading.{Heading}
use Rattle.encode.specs.Encode.{Contents, exchange_of, encoded}
use Rattle.roundtrip.specs.ReadBack.{InRange, Sent, ordinary_in, ReadsBack, Stands, Outgoing}
use Rattle.schemes.specs.Lists.{Id, keep, first, left_over, rule2, reply_of, one_to16, whole_ids, join_ids}
use Rattle.schemes.specs.Sets.{left}
use Rattle.conversation.specs.declared.Record.{Record}
use Rattle.conversation.specs.declared.Answer.{Answer}
use Rattle.conversation.specs.State.{LATER, CLOSED, with_stage, closed, own_of, scheme_at, limit_rows, fresh}
use Rattle.conversation.specs.Turns.{NEGO, METADATA, may_read}
use Rattle.conversation.specs.Outcomes.{Outcome, zero_id, answered, refused, closed_by}
use Rattle.conversation.specs.Writing.{heading, message_of, nego_in, scheme_now, Speech, class_in, contents_in, spoken, opening}
use Rattle.conversation.specs.Admitting.{scheme_in}
use Rattle.conversation.specs.Reading.{conversation_of, reading_token}
use Rattle.conversation.specs.Choosing.{chose, choosing}
use Rattle.conversation.specs.Runs.{NegoCall, Call, offer, reply, metadata, speak, read, choose, End, act, Opening, World, world, outcome_at, next, ends, Entry, run, is_accepted, is_lawful, Replied}
use Rattle.conversation.specs.Logs.{added}

-- "Record and lent octets are unchanged.", as C-18 has it: "Refusal 12 now returns the record closed, everything else in it unchanged, and the lent
-- octets too"
abbrev pub Unchanged : Record → List ℕ → Outcome → Type 0
Unchanged r d o = (o.answer.refusal ≡ 0 → ⊥) → (o.answer.next ≡ closed_by o.answer.refusal r) × (o.transcript ≡ d)

abbrev pub RefusedUnchanged : Type 0
RefusedUnchanged = (e : End) (peer : List ℕ) (k : Call) → Unchanged e.record_of e.transcript (act e peer k)

-- C-18: "everything else in it unchanged"
abbrev pub StageOnly : Type 0
StageOnly = (r : Record) (stage : ℕ) → with_stage r.stage (with_stage stage r) ≡ r

abbrev pub ClosedInside : Type 0
ClosedInside = (r : Record) → limit_rows (closed r) ≡ limit_rows r

-- nothing else closes: no writer, no choice, no token that is read, and no other refusal
abbrev pub OnlyTwelveCloses : Type 0
OnlyTwelveCloses =
    (e : End) (peer : List ℕ) (k : Call) → (e.record_of.stage ≡ CLOSED → ⊥) → (act e peer k).answer.next.stage ≡ CLOSED
    → (k ≡ read) × ((act e peer k).answer.refusal ≡ 12)

-- C-18: "A closed record answers every later call with 18.": later ones too, since this one changes nothing
abbrev pub ClosedRefuses : Type 0
ClosedRefuses =
    (e : End) (peer : List ℕ) (k : Call) → e.record_of.stage ≡ CLOSED → act e peer k ≡ refused e.record_of e.transcript 18 0

-- C-11: "number 9 is never given again"
abbrev pub NineNeverRead : Type 0
NineNeverRead = (r : Record) (d t : List ℕ) → (reading_token r d t).answer.refusal ≡ 9 → ⊥

abbrev pub is_test : Call → Bool
is_test (offer g) = g.0.test
is_test (reply m g) = g.0.test
is_test (metadata id value) = false
is_test (speak s) = false
is_test read = false
is_test (choose m s) = false

abbrev pub NoTest : List (Bool × Call) → Type 0
NoTest cs = (x : Bool) (k : Call) → Memᴰ (x, k) cs → is_test k ≡ false

-- without a test call what our ends write has no critical extension, so that no record of such a run closes
abbrev pub TwelveNeverRun : Type 0
TwelveNeverRun =
    (o : Opening) (cs : List (Bool × Call)) → NoTest cs → (x : Entry) → Memᴰ x (run (world o) cs) → x.said.refusal ≡ 12 → ⊥

-- C-22: "For a critical one the structural reading answers 12": so does a record's, where it may read and nothing goes before, and it closes (C-18)
abbrev pub CriticalCloses : Type 0
CriticalCloses =
    (r : Record) (d : List ℕ) (h : Heading) (c : Contents) (rest : List ℕ) → Sent h c → InRange c → ordinary_in c ≡ false
    → first_failing (limit_rows r) ≡ 0 → may_read r ≡ true → length (encoded h c ++ rest) ≤ 65535
    → h.sequence ≡ r.sequence → h.conversation ≡ conversation_of r (encoded h c ++ rest)
    → reading_token r d (encoded h c ++ rest) ≡ refused (closed r) d 12 0

abbrev pub decides : Answer → Bool
decides a = is_accepted a || eqb a.refusal 12

abbrev pub RefusedStays : Type 0
RefusedStays = (w : World) (x : Bool) (k : Call) → decides (outcome_at w x k).answer ≡ false → next w x k ≡ w

abbrev pub deciding_of : World → List (Bool × Call) → List (Bool × Call)
deciding_of w [] = []
deciding_of w (c ∷ cs) =
    cond (decides (outcome_at w c.0 c.1).answer) (c ∷ deciding_of (next w c.0 c.1) cs) (deciding_of (next w c.0 c.1) cs)

abbrev pub DecidingEnds : Type 0
DecidingEnds = (w : World) (cs : List (Bool × Call)) → ends w (deciding_of w cs) ≡ ends w cs

abbrev pub accepted_of : World → List (Bool × Call) → List (Bool × Call)
accepted_of w [] = []
accepted_of w (c ∷ cs) =
    cond (is_accepted (outcome_at w c.0 c.1).answer) (c ∷ accepted_of (next w c.0 c.1) cs) (accepted_of (next w c.0 c.1) cs)

-- "In a run the call and those accepted (not refused) before it decide 18.", with the choice, which their marks and the two lists give: by C-15 an early
-- VERIFY counts by it
abbrev pub AcceptedEnds : Type 0
AcceptedEnds = (o : Opening) (cs : List (Bool × Call)) → NoTest cs → ends (world o) (accepted_of (world o) cs) ≡ ends (world o) cs

-- "A run starts with a record of each role, fresh from opening"
abbrev pub OpeningFresh : Type 0
OpeningFresh =
    (acceptor : Bool) (l : List Id) (conversation : List ℕ) → whole_ids l ≡ true → one_to16 l ≡ true
    → opening acceptor (join_ids l) conversation ≡ answered 0 0 (fresh acceptor (join_ids l) (cond acceptor zero_id conversation))

abbrev pub left_with : Opening → ℕ → ℕ → List Id
left_with o ma mi = left_over o.acceptor o.initiator ma mi

abbrev pub reply_with : Opening → ℕ → List Id
reply_with o m = reply_of o.acceptor o.initiator m

-- demand 2: "the first scheme in the acceptor's order that both ends list and neither has marked failed"; the number left is exact; 17 is given only
-- where there is none; and a lawful call is answered in one of these two ways
pub record RuleTwoAnswer (o : Opening) (cs : List (Bool × Call)) (m : ℕ) (a : Answer) : Type 0 where
  pub refuses : a.refusal ≡ 17 → (ma : ℕ) × (Replied o cs ma × (left_with o ma m ≡ []))
  pub answers : is_accepted a ≡ true
      → (ma : ℕ) × (Replied o cs ma × ((rule2 o.acceptor o.initiator ma m ≡ some a.choice) × (a.left ≡ length (left_with o ma m))))
  pub lawful : is_lawful a ≡ true → (a.refusal ≡ 17) ⊎ (is_accepted a ≡ true)

abbrev pub ByRule2 : Type 0
ByRule2 =
    (o : Opening) (cs : List (Bool × Call)) (x : Entry) (m : ℕ) (s : Speech) → Memᴰ x (run (world o) cs) → x.call ≡ choose m s
    → RuleTwoAnswer o cs m x.said

-- "No common scheme" is said wherever there is none
abbrev pub NoneRefused : Type 0
NoneRefused =
    (o : Opening) (cs : List (Bool × Call)) (x : Entry) (m ma : ℕ) (s : Speech) → Memᴰ x (run (world o) cs) → x.call ≡ choose m s
    → is_lawful x.said ≡ true → Replied o cs ma → left_with o ma m ≡ [] → x.said.refusal ≡ 17

-- "the acceptor's, by its own marks alone, is answered when its NEGO is written": the first and the number of the common schemes less its marks; 17 is
-- given only where there is none, and wherever there is none and none of 18, 19, 25 and 26 goes before (15 is not asked of this call, and 16 comes
-- after 17)
pub record ReplyAnswer (o : Opening) (m : ℕ) (a : Answer) : Type 0 where
  pub refuses : a.refusal ≡ 17 → reply_with o m ≡ []
  pub answers : is_accepted a ≡ true → (first (reply_with o m) ≡ some a.choice) × (a.left ≡ length (reply_with o m))
  pub none_left : reply_with o m ≡ [] → (a.refusal ≡ 18 → ⊥) → (a.refusal ≡ 19 → ⊥) → (a.refusal ≡ 25 → ⊥) → (a.refusal ≡ 26 → ⊥) → a.refusal ≡ 17

abbrev pub ReplyByMarks : Type 0
ReplyByMarks =
    (o : Opening) (cs : List (Bool × Call)) (x : Entry) (m : ℕ) (g : NegoCall) → Memᴰ x (run (world o) cs) → x.call ≡ reply m g
    → ReplyAnswer o m x.said

abbrev pub at_end : Bool → Entry → Bool
at_end true y = y.acceptor
at_end false y = not y.acceptor

abbrev pub accepted_at : Bool → (Call → Bool) → Entry → Bool
accepted_at x sort y = at_end x y && (is_accepted y.said && sort y.call)

abbrev pub with_marks : Call → Bool
with_marks (offer g) = false
with_marks (reply m g) = true
with_marks (metadata id value) = false
with_marks (speak s) = false
with_marks read = false
with_marks (choose m s) = true

-- "its end's accepted call": there is no second
abbrev pub MarksOnce : Type 0
MarksOnce = (o : Opening) (cs : List (Bool × Call)) (x : Bool) → length (keep (accepted_at x with_marks) (run (world o) cs)) ≤ 1

abbrev pub is_reading : Call → Bool
is_reading (offer g) = false
is_reading (reply m g) = false
is_reading (metadata id value) = false
is_reading (speak s) = false
is_reading read = true
is_reading (choose m s) = false

-- by what is added to the end's log, whichever call it is (`EveryRun`: the transcript holds just that)
abbrev pub added_by : (Call → Bool) → End → List ℕ → Call → List (List ℕ)
added_by sort e peer k = cond (sort k && is_accepted (act e peer k).answer) (added e peer k) []

abbrev pub added_at : (Call → Bool) → Bool → World → Bool → Call → List (List ℕ)
added_at sort false w false k = added_by sort w.i w.a.turn k
added_at sort true w true k = added_by sort w.a w.i.turn k
added_at sort false w true k = []
added_at sort true w false k = []

abbrev pub added_in : (Call → Bool) → Bool → World → List (Bool × Call) → List (List ℕ)
added_in sort x w [] = []
added_in sort x w (c ∷ cs) = added_at sort x w c.0 c.1 ++ added_in sort x (next w c.0 c.1) cs

abbrev pub written_in : Bool → World → List (Bool × Call) → List (List ℕ)
written_in = added_in (λ k. not (is_reading k))

abbrev pub read_in : Bool → World → List (Bool × Call) → List (List ℕ)
read_in = added_in is_reading

abbrev pub is_verify : List ℕ → Bool
is_verify m = eqb (head_of m).kind 6

abbrev pub verify_for : Id → List ℕ → Bool
verify_for id m = is_verify m && same_octets id (scheme_in m)

-- "Each end sends at most one VERIFY in a conversation.", as C-15 has it: one for each scheme, so one for the chosen scheme
abbrev pub VerifyOnce : Type 0
VerifyOnce = (o : Opening) (cs : List (Bool × Call)) (x : Bool) (id : Id) → length (keep (verify_for id) (written_in x (world o) cs)) ≤ 1

abbrev pub record_at : Bool → World → Record
record_at false w = w.i.record_of
record_at true w = w.a.record_of

abbrev pub chosen_in : Record → Id
chosen_in r = scheme_at r r.chosen

-- C-15: "Such a VERIFY counts as the end's one only if its scheme is the one chosen": after the choice `attested` is set exactly where the one that
-- counts is written, early or later
abbrev pub FlagSays : Type 0
FlagSays =
    (o : Opening) (cs : List (Bool × Call)) (x : Bool) → (record_at x (ends (world o) cs)).stage ≡ LATER
    → length (keep (verify_for (chosen_in (record_at x (ends (world o) cs)))) (written_in x (world o) cs))
    ≡ cond (record_at x (ends (world o) cs)).attested 1 0

-- the same of what an end reads: 14 for the peer's second
abbrev pub HeardOnce : Type 0
HeardOnce = (o : Opening) (cs : List (Bool × Call)) (x : Bool) (id : Id) → length (keep (verify_for id) (read_in x (world o) cs)) ≤ 1

abbrev pub HeardSays : Type 0
HeardSays =
    (o : Opening) (cs : List (Bool × Call)) (x : Bool) → (record_at x (ends (world o) cs)).stage ≡ LATER
    → length (keep (verify_for (chosen_in (record_at x (ends (world o) cs)))) (read_in x (world o) cs))
    ≡ cond (record_at x (ends (world o) cs)).confirmed 1 0

pub record Arrays (r : Record) : Type 0 where
  pub list : length r.list ≡ 256
  pub conversation : length r.conversation ≡ 16

abbrev pub sent : Record → ℕ → Contents → Option Outgoing
sent r class c = some (record { heading = heading r class; contents = c })

abbrev pub sent_by : Record → Call → Option Outgoing
sent_by r (offer g) = sent r NEGO (nego_in g.0 (take (16 * r.count) r.list))
sent_by r (reply m g) = sent r NEGO (nego_in g.0 (join_ids (left (own_of r) r.common m)))
sent_by r (metadata id value) = sent r METADATA (exchange_of id.0 value)
sent_by r (speak s) = sent r (class_in s) (contents_in (scheme_at r (scheme_now r)) s)
sent_by r read = none
sent_by r (choose m s) = sent r (class_in s) (contents_in (scheme_at r (scheme_now (chose r m))) s)

pub record ReadsAsSent (r : Record) (d : List ℕ) (m : Outgoing) (o : Outcome) : Type 0 where
  pub stands : Stands d r.used m.heading m.contents o.answer.next.used o.transcript
  pub reads : (rest : List ℕ) → ReadsBack m.heading m.contents rest

-- a checksum type, an error code and the types of extensions and alerts are numbers of 32 bits (`InRange`), as the calls take them
abbrev pub WrittenReads : Type 0
WrittenReads =
    (e : End) (peer : List ℕ) (k : Call) (m : Outgoing) → Arrays e.record_of → sent_by e.record_of k ≡ some m → InRange m.contents
    → is_accepted (act e peer k).answer ≡ true → ReadsAsSent e.record_of e.transcript m (act e peer k)

-- C-12: "chosen scheme, number left and written message out"
abbrev pub ChoiceSpoken : Type 0
ChoiceSpoken =
    (r : Record) (d : List ℕ) (m : ℕ) (s : Speech) → is_accepted (choosing r d m s).answer ≡ true
    → spoken (chose r m) s ≡ message_of r (class_in s) (contents_in (choosing r d m s).answer.choice s)
