-- A line of a script as one value: "Each line of the script is one call, fields separated by one space". Quotations are README.md's, "What a
-- conversation looks like".
--
-- Glossary
--   fields_of s        the fields of a line; longer c fs: with the octet c in front of the first of them
--   first, others      the first of some fields, and those behind it; only: the one where there is one alone. No call has an empty field, so that one
--                      stands for none.
--   BAD                the verb of a bad line; OFFER, REPLY, METADATA, EXCHANGE, VERIFY, ALERT, READ and OPEN: those of the calls; TURN: `read` with
--                      nothing behind it; CHOOSE: the word `choose`; CHOOSE-EXCHANGE, CHOOSE-VERIFY and CHOOSE-ALERT: the calls that it begins; OTHER: none
--   NONE               no field behind a verb; ROOM, MARKS, CODE, ID, CONVERSATION, OCTETS and IDS: the fields that there are; TYPE is read as CODE;
--                      EXTENSIONS: RANDOM and the EXT behind it; ALERTS: the ALERT ..
--   number_of_verb     the verb of a call of src/; verb_named: of one that a word may name, BAD where it is none; number_of_end: the place of an end among
--                      ends; kind_of: the field of a kind of src/; kind_of_rest: the same of the rest of a line
--   call_verb v        the verb v, where it is that of a call: CHOOSE alone is none
--   Form, forms        which fields a call has, by its verb: its number, its id and the rest of its line; form builds one, form_of is that of a verb;
--                      form_as: that of an answer of src/
--   ends, verbs        the words; speeches: those behind `choose MARKS`; place_of w ws: the place of the word w among ws, from 1, or 0 where it is none of
--                      them; place_from: from another number
--                      on
--   verb_of v fs       the verb of a word, where the fields fs stand behind it; speech_verb: that of a place among speeches
--   ids_of fs          the ids of the fields fs, one behind the other; both joins octets, where none of them is bad
--   number_in          what the number says; id_in: the id; rest_in: the rest of the line, where it is octets alone; nothing_in: nothing is left
--   has_id             an id stands there; past b fs: the fields behind one that is read, or not
--   Items              extensions or alerts, or that a field is bad; these: so many; item_of s: the one of the field s; typed: of a type and a value;
--                      items_in fs: those of the fields fs, in order; both_items joins them, where none of them is bad
--   elements_of xs     the number, types and sizes of the items xs, as the library takes them: a type and a size for each of the first eight, zeros
--                      behind them; filled k ns: the first k of ns; size_of n: a size as a number of 32 bits
--   test_in fs         the word `test` stands in front of the first of the EXT
--   Call               a command, its verb by its number
--   Line               a command, and the octets that it is given; line builds one; bad_line: that of a bad line
--   line_as c d        the same of an answer of src/, whose octets stand at the front of the slice d
--   number_then        the line, where a number is good; octets_then: an id or RANDOM; front_then: octets at the front of the lent slice; items_then: items,
--                      whose values stand behind the octets o; a bad line where it is not
--   from_number        the line from its number on; from_id: from its id on; from_rest: from its rest on; from_random: from RANDOM on
--   called             the line of a verb at an end, with the marks of a choice; chosen: that of `choose`, from MARKS on; fields_line: that of its fields
--   command_of s room  what the line s says, where a slice of `room` octets is lent
use Rattle.std.specs.Prelude.{ℕ, zero, suc, ◌+◌, min, Bool, true, false, cond, not, ◌&&◌, ◌||◌, List, [], ◌∷◌, ◌++◌, map, length, take, get_or, replicate, eqb, Option, Some, None}
use Rattle.octets.specs.Octets.{same_octets}
use Rattle.put.specs.Put.{joined}
use Rattle.text.specs.Text.{quoted}
use Rattle.elements.specs.declared.Elements.{Elements}
use Rattle.elements.specs.Elements.{Item, item_values, no_elements}
use Rattle.script.specs.declared.Command.{Command}
use Rattle.script.specs.declared.Verb.{Verb}
use Rattle.script.specs.declared.Verb.TheVariants as call
use Rattle.script.specs.declared.Kind.{Kind}
use Rattle.script.specs.declared.Kind.TheVariants as kind
use Rattle.script.specs.declared.Rest.{Rest}
use Rattle.script.specs.declared.Rest.TheVariants as rest
use Rattle.script.specs.declared.Form.{Form as FormText}
use Rattle.fields.specs.Fields.{part, Numeral, is, nothing, hexadecimal_of, room_of, Octets, of, none, Front, front, bad, fit, octets_of, random_of, id_of, behind_all}

abbrev pub longer : ℕ → List (List ℕ) → List (List ℕ)
longer c [] = []
longer c (f ∷ fs) = (c ∷ f) ∷ fs

-- "fields separated by one space"
unfoldable pub fields_of : List ℕ → List (List ℕ)
fields_of [] = [] ∷ []
fields_of (c ∷ s) = cond (eqb c 32) ([] ∷ fields_of s) (longer c (fields_of s))

abbrev pub first : List (List ℕ) → List ℕ
first [] = []
first (f ∷ fs) = f

abbrev pub others : List (List ℕ) → List (List ℕ)
others [] = []
others (f ∷ fs) = fs

abbrev pub only : List (List ℕ) → List ℕ
only [] = []
only (f ∷ []) = f
only (f ∷ g ∷ fs) = []

abbrev pub BAD : ℕ
BAD = 0

abbrev pub OFFER : ℕ
OFFER = 1

abbrev pub REPLY : ℕ
REPLY = 2

abbrev pub METADATA : ℕ
METADATA = 3

abbrev pub EXCHANGE : ℕ
EXCHANGE = 4

abbrev pub VERIFY : ℕ
VERIFY = 5

abbrev pub ALERT : ℕ
ALERT = 6

abbrev pub READ : ℕ
READ = 7

abbrev pub CHOOSE : ℕ
CHOOSE = 8

abbrev pub TURN : ℕ
TURN = 9

abbrev pub OPEN : ℕ
OPEN = 10

abbrev pub CHOOSE-EXCHANGE : ℕ
CHOOSE-EXCHANGE = 11

abbrev pub CHOOSE-VERIFY : ℕ
CHOOSE-VERIFY = 12

abbrev pub CHOOSE-ALERT : ℕ
CHOOSE-ALERT = 13

abbrev pub OTHER : ℕ
OTHER = 14

abbrev pub number_of_verb : Verb → ℕ
number_of_verb call.Offer = OFFER
number_of_verb call.Reply = REPLY
number_of_verb call.Metadata = METADATA
number_of_verb call.Exchange = EXCHANGE
number_of_verb call.Verify = VERIFY
number_of_verb call.Alert = ALERT
number_of_verb call.Read = READ
number_of_verb call.Turn = TURN
number_of_verb call.Open = OPEN
number_of_verb call.ChooseExchange = CHOOSE-EXCHANGE
number_of_verb call.ChooseVerify = CHOOSE-VERIFY
number_of_verb call.ChooseAlert = CHOOSE-ALERT
number_of_verb call.Other = OTHER

abbrev pub verb_named : Option Verb → ℕ
verb_named (Some v) = number_of_verb v
verb_named None = BAD

abbrev pub number_of_end : Option Bool → ℕ
number_of_end (Some false) = 1
number_of_end (Some true) = 2
number_of_end None = 0

abbrev pub NONE : ℕ
NONE = 0

abbrev pub ROOM : ℕ
ROOM = 1

abbrev pub MARKS : ℕ
MARKS = 2

abbrev pub CODE : ℕ
CODE = 3

abbrev pub ID : ℕ
ID = 4

abbrev pub CONVERSATION : ℕ
CONVERSATION = 5

abbrev pub EXTENSIONS : ℕ
EXTENSIONS = 6

abbrev pub OCTETS : ℕ
OCTETS = 7

abbrev pub IDS : ℕ
IDS = 8

abbrev pub ALERTS : ℕ
ALERTS = 9

abbrev pub kind_of : Option Kind → ℕ
kind_of (Some kind.Room) = ROOM
kind_of (Some kind.Marks) = MARKS
kind_of (Some kind.Code) = CODE
kind_of (Some kind.Id) = ID
kind_of (Some kind.Conversation) = CONVERSATION
kind_of (Some kind.Octets) = OCTETS
kind_of (Some kind.Ids) = IDS
kind_of None = NONE

abbrev pub kind_of_rest : Rest → ℕ
kind_of_rest rest.Extensions = EXTENSIONS
kind_of_rest rest.Alerts = ALERTS
kind_of_rest (rest.Plain k) = kind_of k

pub record Form : Type 0 where
  pub number : ℕ
  pub id : ℕ
  pub rest : ℕ

abbrev pub form : ℕ → ℕ → ℕ → Form
form n i r = record { number = n; id = i; rest = r }

-- by verb: a bad line; "E offer RANDOM EXT EXT .."; "E reply MARKS RANDOM EXT EXT .."; "E metadata ID OCTETS"; "E exchange OCTETS"; "E verify TYPE OCTETS";
-- "E alert CODE ALERT ALERT .."; "E read OCTETS"; no call; "E read"; "open i ROOM CONVERSATION ID ID .." and "open a ROOM ID ID .."; behind
-- "E choose MARKS" "exchange OCTETS", "verify TYPE OCTETS" and "alert CODE ALERT ALERT .."
abbrev pub forms : List Form
forms =
    form NONE NONE NONE
    ∷ form NONE NONE EXTENSIONS
    ∷ form MARKS NONE EXTENSIONS
    ∷ form NONE ID OCTETS
    ∷ form NONE NONE OCTETS
    ∷ form CODE NONE OCTETS
    ∷ form CODE NONE ALERTS
    ∷ form NONE NONE OCTETS
    ∷ form NONE NONE NONE
    ∷ form NONE NONE NONE
    ∷ form ROOM CONVERSATION IDS
    ∷ form NONE NONE OCTETS
    ∷ form CODE NONE OCTETS
    ∷ form CODE NONE ALERTS
    ∷ []

unfoldable pub form_of : ℕ → Form
form_of verb = get_or forms verb (form NONE NONE NONE)

abbrev pub form_as : FormText → Form
form_as f = form (kind_of f.number) (kind_of f.id) (kind_of_rest f.rest)

unfoldable pub place_from : ℕ → List ℕ → List (List ℕ) → ℕ
place_from k w [] = 0
place_from k w (x ∷ ws) = cond (same_octets w x) k (place_from (k + 1) w ws)

abbrev pub place_of : List ℕ → List (List ℕ) → ℕ
place_of w ws = place_from 1 w ws

-- "E is `i` or `a`."
abbrev pub ends : List (List ℕ)
ends = fields_of (quoted "i a")

-- "words are lower case"; each has its verb's place
abbrev pub verbs : List (List ℕ)
verbs = fields_of (quoted "offer reply metadata exchange verify alert read choose")

abbrev pub speeches : List (List ℕ)
speeches = fields_of (quoted "exchange verify alert")

abbrev pub speech_verb : ℕ → ℕ
speech_verb place = cond (eqb place 1) CHOOSE-EXCHANGE (cond (eqb place 2) CHOOSE-VERIFY (cond (eqb place 3) CHOOSE-ALERT BAD))

-- "reads a copy of the other end's turn so far"
unfoldable pub verb_of : ℕ → List (List ℕ) → ℕ
verb_of verb [] = cond (eqb verb READ) TURN verb
verb_of verb (f ∷ fs) = verb

abbrev pub call_verb : ℕ → ℕ
call_verb verb = cond (eqb verb CHOOSE) BAD verb

abbrev pub both : Octets → Octets → Octets
both (of o) x = behind_all o x
both none x = none

-- "any number of ids"
unfoldable pub ids_of : List (List ℕ) → Octets
ids_of [] = of []
ids_of (f ∷ fs) = both (id_of f) (ids_of fs)

-- ROOM, MARKS, TYPE or CODE
unfoldable pub number_in : ℕ → List (List ℕ) → Numeral
number_in kind fs =
    cond (eqb kind NONE) (is 0)
    (cond (eqb kind ROOM) (room_of (first fs))
    (cond (eqb kind MARKS) (hexadecimal_of 4 65535 (first fs)) (hexadecimal_of 8 4294967295 (first fs))))

-- an initiator has a CONVERSATION, and an acceptor none
abbrev pub has_id : ℕ → Bool → Bool
has_id kind acceptor = eqb kind ID || (eqb kind CONVERSATION && not acceptor)

unfoldable pub id_in : Bool → List (List ℕ) → Octets
id_in true fs = id_of (first fs)
id_in false fs = of (replicate 16 0)

-- the fields behind one that is read, or not
abbrev pub past : Bool → List (List ℕ) → List (List ℕ)
past true fs = others fs
past false fs = fs

abbrev pub nothing_in : List (List ℕ) → Octets
nothing_in [] = of []
nothing_in (f ∷ fs) = none

unfoldable pub rest_in : ℕ → List (List ℕ) → Octets
rest_in kind fs = cond (eqb kind IDS) (ids_of fs) (cond (eqb kind OCTETS) (octets_of (only fs)) (nothing_in fs))

pub data Items : Type 0 where
  these : List Item → Items
  no_items : Items

abbrev pub both_items : Items → Items → Items
both_items (these xs) (these ys) = these (xs ++ ys)
both_items (these xs) no_items = no_items
both_items no_items y = no_items

abbrev pub typed : Numeral → Octets → Items
typed (is t) (of v) = these (record { type = t; value = v } ∷ [])
typed (is t) none = no_items
typed nothing o = no_items

-- "EXT and ALERT are TYPE:OCTETS"
unfoldable pub item_of : List ℕ → Items
item_of s = cond (eqb (get_or s 8 0) 58) (typed (hexadecimal_of 8 4294967295 (part s 0 8)) (octets_of (part s 9 (length s)))) no_items

-- "any number of them"
unfoldable pub items_in : List (List ℕ) → Items
items_in [] = these []
items_in (f ∷ fs) = both_items (item_of f) (items_in fs)

-- the first k of ns, and zeros where there are fewer
abbrev pub filled : ℕ → List ℕ → List ℕ
filled zero ns = []
filled (suc k) [] = 0 ∷ filled k []
filled (suc k) (n ∷ ns) = n ∷ filled k ns

-- No line is so long that this makes a difference, and the library refuses far less (25).
abbrev pub size_of : ℕ → ℕ
size_of n = min n 4294967295

unfoldable pub elements_of : List Item → Elements
elements_of xs =
    record { count = length xs; types = filled 8 (map (λ x. x.type) xs); sizes = filled 8 (map (λ x. size_of (length x.value)) xs) }

-- "the word `test` in front of the first EXT"
abbrev pub test_in : List (List ℕ) → Bool
test_in [] = false
test_in (f ∷ []) = false
test_in (f ∷ g ∷ fs) = same_octets f (quoted "test")

pub record Call : Type 0 where
  pub verb : ℕ
  pub acceptor : Bool
  pub marks : ℕ
  pub number : ℕ
  pub id : List ℕ
  pub test : Bool
  pub elements : Elements
  pub length : ℕ

pub record Line : Type 0 where
  pub command : Call
  pub octets : List ℕ

abbrev pub line : ℕ → Bool → ℕ → ℕ → List ℕ → Bool → Elements → ℕ → List ℕ → Line
line verb acceptor marks number id test elements length octets =
    record {
      command =
          record { verb = verb; acceptor = acceptor; marks = marks; number = number; id = id; test = test; elements = elements; length = length };
      octets = octets;
    }

abbrev pub bad_line : Line
bad_line = line BAD false 0 0 (replicate 16 0) false no_elements 0 []

abbrev pub line_as : Option Command → List ℕ → Line
line_as (Some c) d = line (number_of_verb c.verb) c.acceptor c.marks c.number c.id c.test c.elements c.length (take c.length d)
line_as None d = bad_line

abbrev pub number_then : Numeral → (ℕ → Line) → Line
number_then (is n) f = f n
number_then nothing f = bad_line

abbrev pub octets_then : Octets → (List ℕ → Line) → Line
octets_then (of o) f = f o
octets_then none f = bad_line

abbrev pub front_then : Front → (ℕ → List ℕ → Line) → Line
front_then (front k o) f = f k o
front_then bad f = bad_line

abbrev pub items_then : ℕ → List ℕ → Items → (Elements → ℕ → List ℕ → Line) → Line
items_then room o (these xs) f = front_then (fit room (of (o ++ joined (item_values xs)))) (f (elements_of xs))
items_then room o no_items f = bad_line

-- "RANDOM EXT EXT .."
unfoldable pub from_random : List (List ℕ) → ℕ → (Bool → Elements → ℕ → List ℕ → Line) → Line
from_random fs room f =
    octets_then (random_of (first fs))
    (λ o. items_then room o (items_in (past (test_in (others fs)) (others fs))) (f (test_in (others fs))))

-- the rest of the line
unfoldable pub from_rest : ℕ → Bool → ℕ → ℕ → List ℕ → List (List ℕ) → ℕ → Line
from_rest verb acceptor marks n i fs room =
    cond (eqb (form_of verb).rest EXTENSIONS) (from_random fs room (line verb acceptor marks n i))
    (cond (eqb (form_of verb).rest ALERTS) (items_then room [] (items_in fs) (line verb acceptor marks n i false))
    (front_then (fit room (rest_in (form_of verb).rest fs)) (line verb acceptor marks n i false no_elements)))

-- the id, and what is behind it
unfoldable pub from_id : ℕ → Bool → ℕ → ℕ → List (List ℕ) → ℕ → Line
from_id verb acceptor marks n fs room =
    octets_then (id_in (has_id (form_of verb).id acceptor) fs)
    (λ i. from_rest verb acceptor marks n i (past (has_id (form_of verb).id acceptor) fs) room)

-- the number, and what is behind it
unfoldable pub from_number : ℕ → Bool → ℕ → List (List ℕ) → ℕ → Line
from_number verb acceptor marks fs room =
    number_then (number_in (form_of verb).number fs)
    (λ n. from_id verb acceptor marks n (past (not (eqb (form_of verb).number NONE)) fs) room)

-- a verb and an end, which both have to be some
unfoldable pub called : ℕ → ℕ → ℕ → List (List ℕ) → ℕ → Line
called verb end marks fs room = cond (eqb end 0) bad_line (cond (eqb verb BAD) bad_line (from_number verb (eqb end 2) marks fs room))

-- "E choose MARKS exchange OCTETS", "E choose MARKS verify TYPE OCTETS", "E choose MARKS alert CODE ALERT ALERT .."
unfoldable pub chosen : ℕ → List (List ℕ) → ℕ → Line
chosen end fs room =
    number_then (number_in MARKS fs)
    (λ marks. called (speech_verb (place_of (first (others fs)) speeches)) end marks (others (others fs)) room)

-- "open i ..", "open a ..", "E offer .." to "E read ..", and "E choose .."
unfoldable pub fields_line : List (List ℕ) → ℕ → Line
fields_line [] room = bad_line
fields_line (w ∷ []) room = bad_line
fields_line (w ∷ x ∷ fs) room =
    cond (same_octets w (quoted "open")) (called OPEN (place_of x ends) 0 fs room)
    (cond (eqb (verb_of (place_of x verbs) fs) CHOOSE) (chosen (place_of w ends) fs room)
    (called (verb_of (place_of x verbs) fs) (place_of w ends) 0 fs room))

unfoldable pub command_of : List ℕ → ℕ → Line
command_of s room = fields_line (fields_of s) room
