-- The calls of the library that a script's commands stand for. Quotations are README.md's, "What a conversation looks like".
--
-- Glossary
--   random_in o         RANDOM, which is the first 32 octets of o; zeros where there are fewer. The values of the extensions stand after it
--   nego_content c o    what a call that writes a NEGO is given besides marks; alert_content: one that writes an ALERT, whose values are all of o
--   kept d a            an answer that leaves the transcript d as it is
--   nego_of, writer_of  the calls that write a NEGO, and all that write only
--   chooser_of          the calls that choose and write, and those
--   call_of c r d o     the call of the command c with the octets o, at an end with the record r and the transcript d
use Rattle.std.specs.Prelude.{ℕ, ◌%◌, cond, List, length, take, drop, replicate, eqb, leb}
use Rattle.octets.specs.Octets.{signed32}
use Rattle.conversation.specs.declared.Record.{Record}
use Rattle.conversation.specs.declared.Answer.{Answer}
use Rattle.conversation.specs.Outcomes.{Outcome, answered}
use Rattle.conversation.specs.Writing.{NegoContent, AlertContent, opening, offering, replying, writing_metadata, request, checksum, alarm, speaking}
use Rattle.conversation.specs.Reading.{reading_token}
use Rattle.conversation.specs.Choosing.{choosing}
use Rattle.script.specs.declared.Command.{Command}
use Rattle.script.specs.Grammar.{OFFER, REPLY, METADATA, EXCHANGE, VERIFY, ALERT, READ, OPEN, CHOOSE-EXCHANGE, CHOOSE-VERIFY, CHOOSE-ALERT, number_of_verb}

unfoldable pub random_in : List ℕ → List ℕ
random_in o = cond (leb 32 (length o)) (take 32 o) (replicate 32 0)

abbrev pub nego_content : Command → List ℕ → NegoContent
nego_content c o = record { random = random_in o; test = c.test; extensions = c.elements; values = drop 32 o }

abbrev pub alert_content : Command → List ℕ → AlertContent
alert_content c o = record { code = signed32 c.number; alerts = c.elements; values = o }

abbrev pub kept : List ℕ → Answer → Outcome
kept d a = record { answer = a; transcript = d }

-- "E offer RANDOM EXT EXT ..", "E reply MARKS RANDOM EXT EXT .."; what is no call is not of this stage (18)
unfoldable pub nego_of : Command → Record → List ℕ → List ℕ → Outcome
nego_of c r d o =
    cond (eqb (number_of_verb c.verb) OFFER) (offering r d (nego_content c o))
    (cond (eqb (number_of_verb c.verb) REPLY) (replying r d (c.number % 65536) (nego_content c o)) (kept d (answered 18 0 r)))

-- "E metadata ID OCTETS", "E exchange OCTETS", "E verify TYPE OCTETS", "E alert CODE ALERT ALERT .."; "TYPE and CODE are read as two's complement"
unfoldable pub writer_of : Command → Record → List ℕ → List ℕ → Outcome
writer_of c r d o =
    cond (eqb (number_of_verb c.verb) METADATA) (writing_metadata r d c.id o)
    (cond (eqb (number_of_verb c.verb) EXCHANGE) (speaking r d (request o))
    (cond (eqb (number_of_verb c.verb) VERIFY) (speaking r d (checksum (signed32 c.number) o))
    (cond (eqb (number_of_verb c.verb) ALERT) (speaking r d (alarm (alert_content c o)))
    (nego_of c r d o))))

-- "E choose MARKS exchange OCTETS", "E choose MARKS verify TYPE OCTETS", "E choose MARKS alert CODE ALERT ALERT .."
unfoldable pub chooser_of : Command → Record → List ℕ → List ℕ → Outcome
chooser_of c r d o =
    cond (eqb (number_of_verb c.verb) CHOOSE-EXCHANGE) (choosing r d (c.marks % 65536) (request o))
    (cond (eqb (number_of_verb c.verb) CHOOSE-VERIFY) (choosing r d (c.marks % 65536) (checksum (signed32 c.number) o))
    (cond (eqb (number_of_verb c.verb) CHOOSE-ALERT) (choosing r d (c.marks % 65536) (alarm (alert_content c o)))
    (writer_of c r d o)))

-- "open i ROOM CONVERSATION ID ID ..", "open a ROOM ID ID ..", "E read OCTETS"
unfoldable pub call_of : Command → Record → List ℕ → List ℕ → Outcome
call_of c r d o =
    cond (eqb (number_of_verb c.verb) OPEN) (kept d (opening c.acceptor o c.id))
    (cond (eqb (number_of_verb c.verb) READ) (reading_token r d o)
    (chooser_of c r d o))
