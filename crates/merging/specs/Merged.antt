-- What the functions of src/ answer, by the definitions of files cut up and merged.
--
-- Glossary
--   Stop                 the number and the place of the refusal that a file's cutting ends with
--   stop_in ch           the one that a cut ends with; stop_of: that of an answer of src/
--   Cutting              a file cut up: how many messages stand at its front, and what refuses the rest; cutting: that of an answer of src/
--   cut_by ch            that of a cut; file_cut s: of a file, 1 before 2 to 6
--   ran_in q s           the longest run at the front of the octets s, numbered from q on: how many octets and messages it has
--   next_by              a run of a side, as a turn; next_if: where it has messages
--   next_in q i a        the next turn of what is left of two files, numbered from q on, or none
--   turns_left q i a     the turns of what is left of two files, numbered from q on
use Rattle.std.specs.Prelude.{ℕ, ◌+◌, Bool, true, false, cond, List, length, leb, ltb, Option, Some, None}
use Rattle.refusal.specs.Refusals.{number_of}
use Rattle.token.specs.declared.Refused.{Refused}
use Rattle.token.specs.Token.{Chain, end, refused as cut_at, message}
use Rattle.token.specs.Split.{join}
use Rattle.conversation.specs.Logs.{messages_in}
use Rattle.sides.specs.Merging.{cut_of, messages_of, run_from, Turn, turns_from}
use Rattle.merging.specs.declared.Cut.{Cut}
use Rattle.merging.specs.declared.Run.{Run}
use Rattle.merging.specs.declared.Next.{Next}

pub record Stop : Type 0 where
  pub number : ℕ
  pub place : ℕ

abbrev pub stop_in : Chain → Option Stop
stop_in end = None
stop_in (cut_at n p) = Some (record { number = n; place = p })
stop_in (message m ms) = stop_in ms

abbrev pub stop_of : Option Refused → Option Stop
stop_of None = None
stop_of (Some r) = Some (record { number = number_of r.refusal; place = r.place.0 })

pub record Cutting : Type 0 where
  pub messages : ℕ
  pub stop : Option Stop

abbrev pub cutting : Cut → Cutting
cutting c = record { messages = c.messages; stop = stop_of c.refused }

abbrev pub cut_by : Chain → Cutting
cut_by ch = record { messages = length (messages_in ch); stop = stop_in ch }

unfoldable pub file_cut : List ℕ → Cutting
file_cut s = cond (leb (length s) 65535) (cut_by (cut_of s)) (record { messages = 0; stop = Some (record { number = 1; place = 0 }) })

unfoldable pub ran_in : ℕ → List ℕ → Run
ran_in q s = record { octets = length (join (run_from q (messages_of s))); messages = length (run_from q (messages_of s)) }

abbrev pub next_by : Bool → Run → Next
next_by false r = record { acceptors = false; initiator = r.octets; acceptor = 0; messages = r.messages }
next_by true r = record { acceptors = true; initiator = 0; acceptor = r.octets; messages = r.messages }

abbrev pub next_if : Bool → Run → Option Next
next_if x r = cond (ltb 0 r.messages) (Some (next_by x r)) None

unfoldable pub next_in : ℕ → List ℕ → List ℕ → Option Next
next_in q i a = cond (ltb 0 (ran_in q i).messages) (Some (next_by false (ran_in q i))) (next_if true (ran_in q a))

abbrev pub turns_left : ℕ → List (List ℕ) → List (List ℕ) → List Turn
turns_left q i a = turns_from (length i + length a) q i a
