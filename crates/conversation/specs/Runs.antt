-- Runs of two ends, and demand 3. Document 01: "A run starts with a record of each role, fresh from opening, and a transcript buffer of its own for
-- each. It is a list of calls, each at one end: writing any message, reading, choosing (the initiator's)." By C-12 choosing writes too.
--
-- Glossary
--   Sized n           n octets, as an array hands them over
--   NegoGiven         the contents of a NEGO as arrays hand them over: 32 octets of random, and types of 32 bits; NegoCall: such contents
--   Call              the calls, with what each is given
--   End               an end of a run: its record, its transcript buffer, and its turn so far
--   act               a call at an end, beside the other end's turn so far: its outcome
--   moved             the end after a call; turn_after: its turn so far, where the call is accepted
--   Opening, World    what a run starts with; the two ends; world: the two ends, fresh from opening
--   outcome_at, next  a call at one of two ends: its outcome, and the two ends after it; ends: those after a list of calls
--   Entry, run        a call with its end and its answer; those of a list of calls
--   is_accepted       an answer that is no refusal
--   is_lawful         "none of 15, 16, 18, 19 applies", nor 25 or 26
--   Replied           the marks with which the acceptor's NEGO was written in a run; ChoseWith: those with which the initiator chose
--   MarksKept         the marks of the second run are those of the first, for the schemes that both ends listed there
--   Choice            what a lawful choosing call answers after a longer offer
--   NotLost           what holds of a call after a longer offer, the first run's choice being c
--   Demand3           the demand, over any two runs
use Rattle.std.specs.Prelude.{ℕ, ◌≡◌, Bool, true, false, cond, not, ◌||◌, length, eqb}
use mathlib.Core.List.{List, [], ◌∷◌, ◌++◌, Memᴰ}
use Rattle.std.proofs.Math.Option.{some}
use Rattle.schemes.specs.Lists.{Id, one_to16, whole_ids, join_ids, rule2}
use Rattle.schemes.specs.Longer.{Longer, SameMarks, NoLater}
use Rattle.elements.specs.Elements.{items_of}
use Rattle.roundtrip.specs.ReadBack.{types_fit}
use Rattle.conversation.specs.declared.Record.{Record}
use Rattle.conversation.specs.declared.Answer.{Answer}
use Rattle.conversation.specs.State.{fresh}
use Rattle.conversation.specs.Outcomes.{Outcome, zero_id}
use Rattle.conversation.specs.Writing.{NegoContent, offering, replying, writing_metadata, offered, reply_message, metadata_message, Speech, spoken, speaking}
use Rattle.conversation.specs.Reading.{reading_token}
use Rattle.conversation.specs.Choosing.{chose, choosing}

abbrev pub Sized : ℕ → Type 0
Sized n = (l : List ℕ) × (length l ≡ n)

pub record NegoGiven (g : NegoContent) : Type 0 where
  pub random : length g.random ≡ 32
  pub types : types_fit (items_of g.extensions g.values) ≡ true

abbrev pub NegoCall : Type 0
NegoCall = (g : NegoContent) × NegoGiven g

pub data Call : Type 0 where
  offer : NegoCall → Call
  reply : (marks : ℕ) → NegoCall → Call
  metadata : Sized 16 → (value : List ℕ) → Call
  speak : Speech → Call
  read : Call
  choose : (marks : ℕ) → Speech → Call

pub record End : Type 0 where
  pub record_of : Record
  pub transcript : List ℕ
  pub turn : List ℕ

-- "A reading gets, in a separate buffer, a copy of the other end's turn so far"
unfoldable pub act : End → List ℕ → Call → Outcome
act e peer (offer g) = offering e.record_of e.transcript g.0
act e peer (reply m g) = replying e.record_of e.transcript m g.0
act e peer (metadata id value) = writing_metadata e.record_of e.transcript id.0 value
act e peer (speak s) = speaking e.record_of e.transcript s
act e peer read = reading_token e.record_of e.transcript peer
act e peer (choose m s) = choosing e.record_of e.transcript m s

-- "all that this other end wrote since its own opening or the last token that it accepted itself"
abbrev pub turn_after : End → Call → List ℕ
turn_after e (offer g) = e.turn ++ offered e.record_of g.0
turn_after e (reply m g) = e.turn ++ reply_message e.record_of m g.0
turn_after e (metadata id value) = e.turn ++ metadata_message e.record_of id.0 value
turn_after e (speak s) = e.turn ++ spoken e.record_of s
turn_after e read = []
turn_after e (choose m s) = e.turn ++ spoken (chose e.record_of m) s

-- "Each gets the record that its end's last call returned, refused or not, and the transcript as that left it"
abbrev pub moved : End → Call → Outcome → End
moved e k o = record {
  record_of = o.answer.next;
  transcript = o.transcript;
  turn = cond (eqb o.answer.refusal 0) (turn_after e k) e.turn;
}

pub record Opening : Type 0 where
  pub initiator : List Id
  pub acceptor : List Id
  pub conversation : Sized 16
  pub initiator_buffer : List ℕ
  pub acceptor_buffer : List ℕ
  pub initiator_whole : whole_ids initiator ≡ true
  pub acceptor_whole : whole_ids acceptor ≡ true
  pub initiator_ok : one_to16 initiator ≡ true
  pub acceptor_ok : one_to16 acceptor ≡ true

pub record World : Type 0 where
  pub i : End
  pub a : End

abbrev pub world : Opening → World
world o = record {
  i = record { record_of = fresh false (join_ids o.initiator) o.conversation.0; transcript = o.initiator_buffer; turn = [] };
  a = record { record_of = fresh true (join_ids o.acceptor) zero_id; transcript = o.acceptor_buffer; turn = [] };
}

-- the end of a call: false the initiator's, true the acceptor's
abbrev pub outcome_at : World → Bool → Call → Outcome
outcome_at w false k = act w.i w.a.turn k
outcome_at w true k = act w.a w.i.turn k

abbrev pub next : World → Bool → Call → World
next w false k = record { i = moved w.i k (outcome_at w false k); a = w.a }
next w true k = record { i = w.i; a = moved w.a k (outcome_at w true k) }

pub record Entry : Type 0 where
  pub acceptor : Bool
  pub call : Call
  pub said : Answer

abbrev pub run : World → List (Bool × Call) → List Entry
run w [] = []
run w (c ∷ cs) = record { acceptor = c.0; call = c.1; said = (outcome_at w c.0 c.1).answer } ∷ run (next w c.0 c.1) cs

abbrev pub ends : World → List (Bool × Call) → World
ends w [] = w
ends w (c ∷ cs) = ends (next w c.0 c.1) cs

abbrev pub is_accepted : Answer → Bool
is_accepted a = eqb a.refusal 0

-- "A call is lawful if none of 15, 16, 18, 19 applies."; C-22: 25 and 26, "neither lawful". By the number that is given, which asks no more than
-- that. Demand 3 asks it of choosing calls: one without room is 16, and so not lawful. The two differ only where nothing is left and there is no
-- room: the number is 17 then. No call of demand 3's second run is 17, so that there they agree.
abbrev pub is_lawful : Answer → Bool
is_lawful a =
    not (eqb a.refusal 15
    || (eqb a.refusal 16 || (eqb a.refusal 18 || (eqb a.refusal 19 || (eqb a.refusal 25 || eqb a.refusal 26)))))

pub record Replied (o : Opening) (cs : List (Bool × Call)) (m : ℕ) : Type 0 where
  pub content : NegoCall
  pub answered : Answer
  pub accepted : is_accepted answered ≡ true
  pub entry : Memᴰ (record { acceptor = true; call = reply m content; said = answered }) (run (world o) cs)

pub record ChoseWith (o : Opening) (cs : List (Bool × Call)) (m : ℕ) : Type 0 where
  pub answered : Answer
  pub spoke : Speech
  pub accepted : is_accepted answered ≡ true
  pub entry : Memᴰ (record { acceptor = false; call = choose m spoke; said = answered }) (run (world o) cs)

-- "In demand 3's second run a call with marks has, for the schemes that both ends listed in the first, exactly the marks that its end's accepted call
-- had there": refused calls too. Asked of the acceptor's NEGO and of the initiator's choice; at the other end either call is 18, whatever its marks.
pub record MarksKept (o : Opening) (cs : List (Bool × Call)) (o' : Opening) (cs' : List (Bool × Call)) : Type 0 where
  pub acceptor_marks : (m m' : ℕ) (g' : NegoCall) → Replied o cs m → Memᴰ (true, reply m' g') cs'
      → SameMarks o.acceptor o.initiator o.acceptor m o'.acceptor m'
  pub initiator_marks : (m m' : ℕ) (s' : Speech) → ChoseWith o cs m → Memᴰ (false, choose m' s') cs'
      → SameMarks o.acceptor o.initiator o.initiator m o'.initiator m'

pub record Choice (o o' : Opening) (cs' : List (Bool × Call)) (m' : ℕ) (c : Id) (a : Answer) : Type 0 where
  pub accepted : is_accepted a ≡ true
  pub ma : ℕ
  pub replied : Replied o' cs' ma
  pub chosen : rule2 o'.acceptor o'.initiator ma m' ≡ some a.choice
  pub no_later : NoLater o.acceptor o.initiator o'.acceptor c a.choice

-- no call is refused with 17, and every lawful choosing call answers a choice by rule 2 that stands no later in the second acceptor's list; if it is
-- another, not both ends listed it before
abbrev pub NotLost : Opening → Opening → List (Bool × Call) → Id → Entry → Type 0
NotLost o o' cs' c y =
    (y.said.refusal ≡ 17 → ⊥)
    × ((m' : ℕ) (s' : Speech) → y.call ≡ choose m' s' → is_lawful y.said ≡ true → Choice o o' cs' m' c y.said)

-- demand 3, one claim about any two lists of calls, and every call of the second
abbrev pub Demand3 : Type 0
Demand3 =
    (o : Opening) (cs : List (Bool × Call)) (o' : Opening) (cs' : List (Bool × Call))
    (x : Entry) (m : ℕ) (s : Speech) → Memᴰ x (run (world o) cs) → x.call ≡ choose m s → is_accepted x.said ≡ true
    → Longer o.acceptor o.initiator o'.acceptor o'.initiator → MarksKept o cs o' cs'
    → (y : Entry) → Memᴰ y (run (world o') cs') → NotLost o o' cs' x.said.choice y
