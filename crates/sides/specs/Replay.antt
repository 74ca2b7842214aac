-- Two files, played to a record of each role. Document 02, C-19: "play them to one record of each role made from two given scheme lists, the
-- initiator's with the first message's conversation; marks are given too".
--
-- Glossary
--   Given            what a side is given: its own list as octets, its marks, and its file, none where that cannot be opened; Case: both sides
--   given_ok g       19, of a list and its marks
--   Sides            a record of each role, and the transcript, which is one for both: each has read or written every turn
--   side_of x s      the record of a role; with_sides: two sides, by the writer's role
--   marks_of         the marks of a turn's writer
--   Ending           how a replay ends: at the last turn, with a refusal and whose it is, or with a file that cannot be opened
--   Whose            whose a refusal is; by: the side of a role
--   first_ending     the first of two endings that is not the last turn's
--   file_ending      what ends a replay as a file is opened and cut up: `no file`, 1 to 6; cut_ending: 2 to 6
--   file_of f        the octets of a file, none where it cannot be opened; messages_by g: the messages of a side's file
--   before c         what ends a replay before play: 19, the initiator's file, the acceptor's file, 24
--   Shown            an accepted turn as it is printed: the turn, and the initiator's choice after it; choice_of r: that of a record
--   Played           a replay: its accepted turns, the sides after them, and its ending
--   outcome_of       what a turn's reader answers; so_played: the sides after an accepted turn
--   play_from        the replay of turns; with_turn: a replay, after one more turn
--   conversation_in  the first message's conversation
--   opened           the sides before the first turn
--   ended_by         a replay, where nothing ends it before play
--   turns_in c       the turns of a case's files
--   replay_of c d    the replay of a case, in the transcript d
use Rattle.std.specs.Prelude.{ℕ, ◌/◌, Bool, true, false, cond, not, ◌&&◌, List, [], ◌∷◌, length, eqb, leb}
use Rattle.std.proofs.Math.Option.{Option, none, some}
use Rattle.octets.specs.Octets.{octets}
use Rattle.token.specs.Token.{Chain, end, refused as cut_at, message}
use Rattle.schemes.specs.Lists.{Id, list_ok}
use Rattle.schemes.specs.Sets.{below}
use Rattle.conversation.specs.declared.Record.{Record}
use Rattle.conversation.specs.State.{NONE, scheme_at}
use Rattle.conversation.specs.Outcomes.{Outcome, zero_id}
use Rattle.conversation.specs.Writing.{opening}
use Rattle.conversation.specs.Runs.{is_accepted}
use Rattle.sides.specs.Merging.{Turn, token, cut_of, messages_of, turns_of, in_row}
use Rattle.sides.specs.Turning.{owed, heard_turn, spoke}

pub record Given : Type 0 where
  pub list : List ℕ
  pub marks : ℕ
  pub file : Option (List ℕ)

pub record Case : Type 0 where
  pub i : Given
  pub a : Given

-- "19 for lists and marks"
abbrev pub given_ok : Given → Bool
given_ok g = list_ok g.list && below (length g.list / 16) g.marks

-- "play them to one record of each role"
pub record Sides : Type 0 where
  pub i : Record
  pub a : Record
  pub transcript : List ℕ

abbrev pub side_of : Bool → Sides → Record
side_of false s = s.i
side_of true s = s.a

abbrev pub with_sides : Bool → Record → Record → List ℕ → Sides
with_sides false writer reader d = record { i = writer; a = reader; transcript = d }
with_sides true writer reader d = record { i = reader; a = writer; transcript = d }

abbrev pub marks_of : Bool → Case → ℕ
marks_of false c = c.i.marks
marks_of true c = c.a.marks

pub data Whose : Type 0 where
  initiator : Whose
  acceptor : Whose
  neither : Whose

abbrev pub by : Bool → Whose
by false = initiator
by true = acceptor

pub data Ending : Type 0 where
  finished : Ending
  refused : (number place : ℕ) → Whose → Ending
  unopened : Ending

abbrev pub first_ending : Ending → Ending → Ending
first_ending finished e = e
first_ending (refused n p w) e = refused n p w
first_ending unopened e = unopened

unfoldable pub cut_ending : Whose → Chain → Ending
cut_ending w end = finished
cut_ending w (cut_at n p) = refused n p w
cut_ending w (message m ms) = cut_ending w ms

-- "1 to 6 as each file is cut up, the initiator's first (an empty one is no messages, one that can't be opened `no file`)"; "END is the file's side for
-- 1 to 6"
abbrev pub file_ending : Whose → Option (List ℕ) → Ending
file_ending w none = unopened
file_ending w (some s) = cond (leb (length s) 65535) (cut_ending w (cut_of s)) (refused 1 0 w)

abbrev pub file_of : Option (List ℕ) → List ℕ
file_of none = []
file_of (some s) = s

abbrev pub messages_by : Given → List (List ℕ)
messages_by g = messages_of (file_of g.file)

-- "`neither` for 19 and 24 (at=0)"; "all before play"
unfoldable pub before : Case → Ending
before c =
    first_ending (cond (given_ok c.i && given_ok c.a) finished (refused 19 0 neither))
    (first_ending (file_ending initiator c.i.file)
    (first_ending (file_ending acceptor c.a.file)
    (cond (in_row (messages_by c.i) (messages_by c.a)) finished (refused 24 0 neither))))

-- "`choice ID` or `choice none` for the initiator's so far"
unfoldable pub choice_of : Record → Option Id
choice_of r = cond (eqb r.chosen NONE) none (some (scheme_at r r.chosen))

pub record Shown : Type 0 where
  pub turn : Turn
  pub choice : Option Id

pub record Played : Type 0 where
  pub turns : List Shown
  pub sides : Sides
  pub ending : Ending

abbrev pub outcome_of : Case → Sides → Turn → Outcome
outcome_of c s t =
    heard_turn (owed (marks_of t.acceptor c) (side_of t.acceptor s) (token t)) (side_of (not t.acceptor) s) s.transcript (token t)

-- the reader has read the turn, and the writer's record goes on as if it had written it
abbrev pub so_played : Case → Sides → Turn → Sides
so_played c s t =
    with_sides t.acceptor (spoke (marks_of t.acceptor c) (side_of t.acceptor s) t.messages) (outcome_of c s t).answer.next
    (outcome_of c s t).transcript

abbrev pub with_turn : Shown → Played → Played
with_turn t p = record { turns = t ∷ p.turns; sides = p.sides; ending = p.ending }

-- "the first refusal ends it": "the writer's for 28, .. else the reader's"; the sides are those before the refused turn. 1 to 6 do not come up in play.
unfoldable pub play_from : Case → Sides → List Turn → Played
play_from c s [] = record { turns = []; sides = s; ending = finished }
play_from c s (t ∷ ts) =
    cond (is_accepted (outcome_of c s t).answer)
    (with_turn (record { turn = t; choice = choice_of (so_played c s t).i }) (play_from c (so_played c s t) ts))
    (record {
      turns = [];
      sides = s;
      ending = refused (outcome_of c s t).answer.refusal (outcome_of c s t).answer.place.0
          (by (cond (eqb (outcome_of c s t).answer.refusal 28) t.acceptor (not t.acceptor)));
    })

abbrev pub conversation_in : List Turn → Id
conversation_in [] = zero_id
conversation_in (t ∷ ts) = octets 16 (token t) 24

-- "one record of each role made from two given scheme lists, the initiator's with the first message's conversation"
abbrev pub opened : Case → List Turn → List ℕ → Sides
opened c ts d = record { i = (opening false c.i.list (conversation_in ts)).next; a = (opening true c.a.list zero_id).next; transcript = d }

abbrev pub ended_by : Ending → Sides → Played → Played
ended_by finished s p = p
ended_by (refused n place w) s p = record { turns = []; sides = s; ending = refused n place w }
ended_by unopened s p = record { turns = []; sides = s; ending = unopened }

abbrev pub turns_in : Case → List Turn
turns_in c = turns_of (messages_by c.i) (messages_by c.a)

unfoldable pub replay_of : Case → List ℕ → Played
replay_of c d = ended_by (before c) (opened c [] d) (play_from c (opened c (turns_in c) d) (turns_in c))
