-- What holds of both ends in every run. Document 01: "The used length equals the sum of the lengths of all messages read and written since opening. So
-- the next sequence number is never above 1,023."
--
-- Glossary
--   messages_in c    the messages of a chain
--   added            what an accepted call adds to the messages that its end has read and written; logged: all of them after any call
--   Logs             for each end the messages, as octets, that it has read and written since opening, in order
--   next_logs        the logs after one call; logs_after: after a list of calls; logs_of: from the opening on
--   InOrder q log    the messages' headers number them on from q
--   Counted r d log  the record r is inside its limits and counts its log, which the transcript d begins with
--   InStep           a log is one that the other end's begins with, and the own turn after it
--   Holds w l        both, of both ends
--   EveryRun         that holds after every list of calls
use Rattle.std.specs.Prelude.{ℕ, ◌+◌, ◌≤◌, ◌≡◌, Bool, true, false, cond, List, [], ◌∷◌, ◌++◌, length, take}
use Rattle.message.specs.Layout.{head_of}
use Rattle.message.specs.Check.{first_failing}
use Rattle.token.specs.Token.{Chain, end, refused as cut_at, message}
use Rattle.token.specs.Split.{join}
use Rattle.conversation.specs.declared.Record.{Record}
use Rattle.conversation.specs.State.{limit_rows}
use Rattle.conversation.specs.Outcomes.{Outcome}
use Rattle.conversation.specs.Writing.{offered, reply_message, metadata_message, spoken}
use Rattle.conversation.specs.Reading.{chain_for}
use Rattle.conversation.specs.Choosing.{chose}
use Rattle.conversation.specs.Runs.{Call, offer, reply, metadata, speak, read, choose, End, Opening, World, world, outcome_at, next, ends, is_accepted}

unfoldable pub messages_in : Chain → List (List ℕ)
messages_in end = []
messages_in (cut_at number place) = []
messages_in (message m ms) = m.octets ∷ messages_in ms

-- "Each written message, and each accepted token, is put at its end"
abbrev pub added : End → List ℕ → Call → List (List ℕ)
added e peer (offer g) = offered e.record_of g.0 ∷ []
added e peer (reply m g) = reply_message e.record_of m g.0 ∷ []
added e peer (metadata id value) = metadata_message e.record_of id.0 value ∷ []
added e peer (speak s) = spoken e.record_of s ∷ []
added e peer read = messages_in (chain_for e.record_of peer)
added e peer (choose m s) = spoken (chose e.record_of m) s ∷ []

abbrev pub logged : End → List ℕ → Call → Outcome → List (List ℕ) → List (List ℕ)
logged e peer k o log = cond (is_accepted o.answer) (log ++ added e peer k) log

pub record Logs : Type 0 where
  pub i : List (List ℕ)
  pub a : List (List ℕ)

abbrev pub next_logs : World → Bool → Call → Logs → Logs
next_logs w false k l = record { i = logged w.i w.a.turn k (outcome_at w false k) l.i; a = l.a }
next_logs w true k l = record { i = l.i; a = logged w.a w.i.turn k (outcome_at w true k) l.a }

abbrev pub logs_after : World → Logs → List (Bool × Call) → Logs
logs_after w l [] = l
logs_after w l (c ∷ cs) = logs_after (next w c.0 c.1) (next_logs w c.0 c.1 l) cs

abbrev pub logs_of : Opening → List (Bool × Call) → Logs
logs_of o cs = logs_after (world o) (record { i = []; a = [] }) cs

-- "Sequence numbers start at 0 and rise by one over both ends' messages together."
abbrev pub InOrder : ℕ → List (List ℕ) → Type 0
InOrder q [] = Unit {0}
InOrder q (m ∷ ms) = ((head_of m).sequence ≡ q) × InOrder (q + 1) ms

-- "The used length equals the sum of the lengths of all messages read and written since opening. So the next sequence number is never above 1,023."
pub record Counted (r : Record) (d : List ℕ) (log : List (List ℕ)) : Type 0 where
  pub inside : first_failing (limit_rows r) ≡ 0
  pub used : r.used ≡ length (join log)
  pub sequence : r.sequence ≡ length log
  pub next_number : r.sequence ≤ 1023
  pub numbers : InOrder 0 log
  pub transcript : take r.used d ≡ join log

-- "all that this other end wrote since its own opening or the last token that it accepted itself": before that, both have the same messages
pub record InStep (turn : List ℕ) (log other : List (List ℕ)) : Type 0 where
  pub shared : List (List ℕ)
  pub own : List (List ℕ)
  pub beyond : List (List ℕ)
  pub parts : log ≡ shared ++ own
  pub written : join own ≡ turn
  pub begins : other ≡ shared ++ beyond

pub record Holds (w : World) (l : Logs) : Type 0 where
  pub initiator : Counted w.i.record_of w.i.transcript l.i
  pub acceptor : Counted w.a.record_of w.a.transcript l.a
  pub initiator_in_step : InStep w.i.turn l.i l.a
  pub acceptor_in_step : InStep w.a.turn l.a l.i

abbrev pub EveryRun : Type 0
EveryRun = (o : Opening) (cs : List (Bool × Call)) → Holds (ends (world o) cs) (logs_of o cs)
