-- A replay at work: what the functions of src/ take and answer, by the definitions of replays.
--
-- Glossary
--   file_if, case_with   a file that could be opened, or none; a case, as src/ is given it
--   octets_of f          the octets of a file, none where it could not be opened
--   whose_as             whose a refusal is, as src/ says it; fault_as: what ends a replay, as src/ says it
--   ending_by r          the ending that src/ answers as r, a result; ending_as e: that of a replay at work, which has none yet while it goes on
--   files_ending         what ends a replay before play, the lists aside
--   Summary              what src/ answers of a replay: how many turns were accepted, the sides and the ending; summary: of a replay
--   counted n u          a summary with n turns more
--   sides_in, played_as  the sides of a replay at work, and its summary
--   left_of s i a        the turns that are left of the files i and a
--   marked m             a case of marks alone
--   rest_of              what is left to be played of a replay at work
--   begun_with           a replay before its first turn
--   Level w r            two records are level: both have read and written the same
--   Fine i a s           a replay at work is inside the files i and a, and its records are level
--   Begun                a replay at work has not begun: what is left of it is the whole
--   Stood, stood         a replay at work, with its transcript
--   role_of x s          the record of a role; place_of: its place in its file; file_by: that file
--   went_on, ended_with  a replay at work after an accepted turn, and at its end; refused_by: the end by a turn's refusal, and whose_in: whose it is
--   side_of x            the side of a role, as src/ says it
--   heard_by             either, by the reader's outcome; after_turn: by the turn
--   Ready s k n          what a turn of k octets and n messages asks of a replay at work
--   octets_in, turn_in   the octets of the turn that a replay at work has just played, and the turn
--   Further, Ended       a replay at work has played one more turn; it has ended; Goes: one of the two
use Rattle.std.specs.Prelude.{ℕ, ◌+◌, ◌-◌, ◌<◌, ◌≤◌, ◌≡◌, Bool, true, false, cond, not, ◌⊎◌, List, [], length, take, drop, eqb, Option, Some, None, Result, Ok, Err, is_none}
use Rattle.std.proofs.Math.Option.{Option as M·Option, none, some}
use Rattle.token.specs.Walk.{Accepts}
use Rattle.sides.specs.Merging.{Turn, token, messages_of, in_row}
use Rattle.sides.specs.Replay.{Case, Whose, initiator, acceptor, neither, Ending, finished, refused, unopened, first_ending, file_ending, file_of, Sides, Played, with_turn, play_from, choice_of, replay_of}
use Rattle.sides.specs.Turning.{owed, heard_turn, spoke}
use Rattle.conversation.specs.declared.Record.{Record}
use Rattle.conversation.specs.declared.Answer.{Answer}
use Rattle.conversation.specs.Outcomes.{Outcome, zero_id}
use Rattle.conversation.specs.Writing.{opening}
use Rattle.merging.specs.Merged.{turns_left}
use Rattle.replaying.specs.declared.Marks.{Marks}
use Rattle.replaying.specs.declared.Whose.{Whose as D·Whose}
use Rattle.replaying.specs.declared.Whose.TheVariants as side
use Rattle.replaying.specs.declared.Fault.{Fault}
use Rattle.replaying.specs.declared.Fault.TheVariants as fault
use Rattle.replaying.specs.declared.Replay.{Replay}

abbrev pub file_if : Option (List ℕ) → M·Option (List ℕ)
file_if None = none
file_if (Some file) = some file

abbrev pub octets_of : Option (List ℕ) → List ℕ
octets_of f = file_of (file_if f)

abbrev pub case_with : List ℕ → List ℕ → Marks → Option (List ℕ) → Option (List ℕ) → Case
case_with il al m ifile afile = record {
  i = record { list = il; marks = m.initiator; file = file_if ifile };
  a = record { list = al; marks = m.acceptor; file = file_if afile };
}

abbrev pub whose_as : D·Whose → Whose
whose_as side.Initiator = initiator
whose_as side.Acceptor = acceptor
whose_as side.Neither = neither

abbrev pub fault_as : Fault → Ending
fault_as fault.Unopened = unopened
fault_as (fault.Refused n p w) = refused n p.0 (whose_as w)

abbrev pub ending_by : {T : Type 0} → Result T Fault → Ending
ending_by (Ok x) = finished
ending_by (Err f) = fault_as f

abbrev pub ending_as : {T : Type 0} → Option (Result T Fault) → Ending
ending_as None = finished
ending_as (Some r) = ending_by r

-- after the lists: each file, and 24
unfoldable pub files_ending : Option (List ℕ) → Option (List ℕ) → Ending
files_ending i a =
    first_ending (file_ending initiator (file_if i))
    (first_ending (file_ending acceptor (file_if a))
    (cond (in_row (messages_of (octets_of i)) (messages_of (octets_of a))) finished (refused 24 0 neither)))

pub record Summary : Type 0 where
  pub turns : ℕ
  pub sides : Sides
  pub ending : Ending

abbrev pub summary : Played → Summary
summary p = record { turns = length p.turns; sides = p.sides; ending = p.ending }

abbrev pub sides_in : Replay → List ℕ → Sides
sides_in s d = record { i = s.initiator; a = s.acceptor; transcript = d }

abbrev pub played_as : Replay → List ℕ → Summary
played_as s d = record { turns = s.turns; sides = sides_in s d; ending = ending_as s.end }

abbrev pub left_of : Replay → List ℕ → List ℕ → List Turn
left_of s i a = turns_left s.number (messages_of (drop s.iplace i)) (messages_of (drop s.aplace a))

-- play goes by the marks alone
abbrev pub marked : Marks → Case
marked m = case_with [] [] m None None

unfoldable pub rest_of : Marks → List ℕ → List ℕ → Replay → List ℕ → Played
rest_of m i a s d =
    cond (is_none s.end) (play_from (marked m) (sides_in s d) (left_of s i a)) (record { turns = []; sides = sides_in s d; ending = ending_as s.end })

-- a replay before its first turn, or one that ended before it
abbrev pub begun_with : List ℕ → List ℕ → List ℕ → Option (Result (Unit {0}) Fault) → Replay
begun_with il al v e = record {
  initiator = (opening false il v).next;
  acceptor = (opening true al zero_id).next;
  iplace = 0;
  aplace = 0;
  number = 0;
  turns = 0;
  last = false;
  end = e;
}

pub record Level (w r : Record) : Type 0 where
  pub few_w : w.count ≤ 16
  pub few_r : r.count ≤ 16
  pub used : w.used ≡ r.used
  pub sequence : w.sequence ≡ r.sequence

pub record Fine (i a : List ℕ) (s : Replay) : Type 0 where
  pub short_i : length i ≤ 65535
  pub short_a : length a ≤ 65535
  pub in_i : s.iplace ≤ length i
  pub in_a : s.aplace ≤ length a
  pub numbers : s.number ≤ s.iplace + s.aplace
  pub few : s.turns ≤ s.number
  pub level : Level s.initiator s.acceptor

-- before the first turn all is left, and it goes on where nothing ended it before play
pub record Begun (c : Case) (m : Marks) (i a : List ℕ) (s : Replay) : Type 0 where
  pub going : is_none s.end ≡ true → Fine i a s
  pub none_yet : s.turns ≡ 0
  pub come : (d : List ℕ) → rest_of m i a s d ≡ replay_of c d

pub record Stood : Type 0 where
  pub replay : Replay
  pub transcript : List ℕ

abbrev pub stood : Replay → List ℕ → Stood
stood s d = record { replay = s; transcript = d }

-- by the role: false the initiator's, true the acceptor's
abbrev pub role_of : Bool → Replay → Record
role_of x s = cond x s.acceptor s.initiator

abbrev pub place_of : Bool → Replay → ℕ
place_of x s = cond x s.aplace s.iplace

abbrev pub file_by : Bool → List ℕ → List ℕ → List ℕ
file_by x i a = cond x a i

-- after an accepted turn of n messages and k octets
abbrev pub went_on : Bool → Replay → Record → Record → ℕ → ℕ → Replay
went_on x s w r k n = record {
  initiator = cond x r w;
  acceptor = cond x w r;
  iplace = cond x s.iplace (s.iplace + k);
  aplace = cond x (s.aplace + k) s.aplace;
  number = s.number + n;
  turns = s.turns + 1;
  last = x;
  end = s.end;
}

abbrev pub side_of : Bool → D·Whose
side_of x = cond x side.Acceptor side.Initiator

-- "the writer's for 28, .. else the reader's"
abbrev pub whose_in : Bool → ℕ → D·Whose
whose_in x number = side_of (cond (eqb number 28) x (not x))

abbrev pub refused_by : Bool → Answer → Fault
refused_by x a = fault.Refused a.refusal a.place (whose_in x a.refusal)

abbrev pub ended_with : Replay → Result (Unit {0}) Fault → Replay
ended_with s r = record {
  initiator = s.initiator;
  acceptor = s.acceptor;
  iplace = s.iplace;
  aplace = s.aplace;
  number = s.number;
  turns = s.turns;
  last = s.last;
  end = Some r;
}

abbrev pub heard_by : Bool → ℕ → Replay → List ℕ → ℕ → Outcome → Stood
heard_by x m s t n o =
    cond (eqb o.answer.refusal 0)
    (stood (went_on x s (spoke m (role_of x s) (messages_of t)) o.answer.next (length t) n) o.transcript)
    (stood (ended_with s (Err (refused_by x o.answer))) o.transcript)

unfoldable pub after_turn : Bool → ℕ → Replay → List ℕ → List ℕ → ℕ → Stood
after_turn x m s d t n = heard_by x m s t n (heard_turn (owed m (role_of x s) t) (role_of (not x) s) d t)

-- what a turn of k octets and n messages asks of a replay at work
pub record Ready (s : Replay) (k n : ℕ) : Type 0 where
  pub level : Level s.initiator s.acceptor
  pub long : 64 ≤ k
  pub room_i : s.iplace + k < 18446744073709551616
  pub room_a : s.aplace + k < 18446744073709551616
  pub numbers : s.number + n < 4294967296
  pub turns : s.turns + 1 < 4294967296

-- the octets of the last turn, between the places before it and after it
abbrev pub octets_in : Bool → List ℕ → List ℕ → Replay → Replay → List ℕ
octets_in x i a s s' = take (place_of x s' - place_of x s) (drop (place_of x s) (file_by x i a))

abbrev pub turn_in : List ℕ → List ℕ → Replay → Replay → Turn
turn_in i a s s' = record { acceptor = s'.last; messages = messages_of (octets_in s'.last i a s s') }

pub record Further (m : Marks) (i a : List ℕ) (s : Replay) (d : List ℕ) (s' : Replay) (d' : List ℕ) : Type 0 where
  pub on : is_none s'.end ≡ true
  pub kept : s'.end ≡ s.end
  pub one : s'.turns ≡ s.turns + 1
  pub less : (length i - s'.iplace) + (length a - s'.aplace) < (length i - s.iplace) + (length a - s.aplace)
  pub octets : token (turn_in i a s s') ≡ octets_in s'.last i a s s'
  pub accepted : Accepts (octets_in s'.last i a s s')
  pub come : rest_of m i a s d ≡ with_turn (record { turn = turn_in i a s s'; choice = choice_of s'.initiator }) (rest_of m i a s' d')

pub record Ended (m : Marks) (i a : List ℕ) (s : Replay) (d : List ℕ) (s' : Replay) (d' : List ℕ) : Type 0 where
  pub over : is_none s'.end ≡ false
  pub still_i : s'.iplace ≡ s.iplace
  pub still_a : s'.aplace ≡ s.aplace
  pub same : s'.turns ≡ s.turns
  pub come : rest_of m i a s d ≡ rest_of m i a s' d'

pub record Goes (m : Marks) (i a : List ℕ) (s : Replay) (d : List ℕ) (s' : Replay) (d' : List ℕ) : Type 0 where
  pub fine : Fine i a s'
  pub step : Further m i a s d s' d' ⊎ Ended m i a s d s' d'

abbrev pub counted : ℕ → Summary → Summary
counted n u = record { turns = n + u.turns; sides = u.sides; ending = u.ending }
