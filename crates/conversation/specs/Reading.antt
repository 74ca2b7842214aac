-- Reading a peer's token into the record. Document 01, "Refusal numbers": "Reading checks 18, 1, then message by message in token order, each by 2 to
-- 15 ascending; then 16."
--
-- Glossary
--   conversation_of  the conversation that the token's messages must have
--   start_of r       what is carried into the first message
--   Judged           a whole token with the number of its messages and what is carried out of it, or the first refusal with its place
--   judge            the chain of messages, judged message by message; then_judge: the next one, where this one is let through
--   chain_for        the chain of a token in a conversation; judged: the token judged
--   common_after     the common set after a token; kept_after: the kept places
--   counts_after     the own one VERIFY is spent after a token
--   taken            the record after an accepted token; taken_as: its answer
--   accepted         the outcome of a whole token that has room
--   finish           the first refusal, by which 12 closes the record; 16, after all messages; then that outcome
--   reading_token    the call: record, transcript and token in, outcome out; token_rows: 18 and 1
use Rattle.std.specs.Prelude.{ℕ, ◌+◌, Bool, cond, ◌&&◌, List, [], ◌∷◌, ◌++◌, length, eqb, leb}
use Rattle.octets.specs.Octets.{octets}
use Rattle.message.specs.Check.{Row}
use Rattle.token.specs.Token.{Chain, end, refused as cut_at, message, chain_of}
use Rattle.put.specs.Put.{put}
use Rattle.schemes.specs.Lists.{Id}
use Rattle.schemes.specs.Sets.{common_set, kept_places, ones, pad_to}
use Rattle.conversation.specs.declared.Record.{Record}
use Rattle.conversation.specs.declared.Answer.{Answer}
use Rattle.conversation.specs.declared.Scan.{Scan}
use Rattle.conversation.specs.State.{REPLY, own_of, limit_rows}
use Rattle.conversation.specs.Turns.{FIRST, ANSWER, reads, may_read}
use Rattle.conversation.specs.Outcomes.{Outcome, zero_id, refused, closed_by, decide, row, room}
use Rattle.conversation.specs.Admitting.{listed_by, Admitted, on, stop, admit}

-- 8: "an acceptor takes it from the first message"
unfoldable pub conversation_of : Record → List ℕ → Id
conversation_of r t = cond (eqb (reads r) FIRST) (octets 16 t 24) r.conversation

abbrev pub start_of : Record → Scan
start_of r = record { position = 0; named = 0; requested = r.requested; chosen = r.chosen; confirmed = r.confirmed }

pub data Judged : Type 0 where
  whole : (messages : ℕ) → Scan → Judged
  halted : (number place : ℕ) → Judged

abbrev pub then_judge : Admitted → ℕ → (Scan → Judged) → Judged
then_judge (on c) place rest = rest c
then_judge (stop n) place rest = halted n place

-- "A refusal stops the token at its first bad message."
unfoldable pub judge : Record → List ℕ → ℕ → Scan → Chain → Judged
judge r t n c end = whole n c
judge r t n c (cut_at number place) = halted number place
judge r t n c (message m ms) = then_judge (admit r t c m.octets) m.place (λ d. judge r t (n + 1) d ms)

-- 2 for an empty token
abbrev pub chain_for : Record → List ℕ → Chain
chain_for r t = cond (eqb (length t) 0) (cut_at 2 0) (chain_of t 0 0 r.sequence (conversation_of r t))

unfoldable pub judged : Record → List ℕ → Judged
judged r t = judge r t 0 (start_of r) (chain_for r t)

unfoldable pub common_after : Record → List ℕ → ℕ
common_after r t =
    cond (eqb (reads r) FIRST) (common_set (own_of r) (listed_by t))
    (cond (eqb (reads r) ANSWER) (ones (length (kept_places (own_of r) (listed_by t)))) r.common)

unfoldable pub kept_after : Record → List ℕ → List ℕ
kept_after r t = cond (eqb (reads r) ANSWER) (pad_to 16 (kept_places (own_of r) (listed_by t))) r.kept

-- C-15: an early VERIFY of the acceptor counts, after its first later token, if the chosen scheme is the AP_REQUEST's
abbrev pub counts_after : Record → Scan → Bool
counts_after r c = cond (eqb r.stage REPLY) (r.attested && eqb c.chosen r.requested) r.attested

-- the stage after the first token is REPLY, after the reply CHOOSING, after a later one LATER; where no token is read (`may_read`), none is taken
abbrev pub taken : Record → List ℕ → ℕ → Scan → Record
taken r t n c = record {
  acceptor = r.acceptor;
  stage = reads r + 1;
  position = 0;
  list = r.list;
  count = r.count;
  conversation = conversation_of r t;
  marks = r.marks;
  common = common_after r t;
  kept = kept_after r t;
  metadata = 0;
  requested = c.requested;
  chosen = c.chosen;
  attested = counts_after r c;
  confirmed = c.confirmed;
  sequence = r.sequence + n;
  used = r.used + length t;
}

abbrev pub taken_as : Record → ℕ → Answer
taken_as r n = record { refusal = 0; place = record { 0 = 0 }; messages = n; choice = zero_id; left = 0; next = r }

-- "each accepted token, is put at its end; no other octet changes"
abbrev pub accepted : Record → List ℕ → List ℕ → ℕ → Scan → Outcome
accepted r d t n c = record { answer = taken_as (taken r t n c) n; transcript = put d r.used t }

-- C-18: "Refusal 12 now returns the record closed, everything else in it unchanged, and the lent octets too"; any other leaves the record as it was
unfoldable pub finish : Record → List ℕ → List ℕ → Judged → Outcome
finish r d t (halted number place) = refused (closed_by number r) d number place
finish r d t (whole n c) = cond (leb (r.used + length t) (room d)) (accepted r d t n c) (refused r d 16 0)

-- before any message is looked at, by the token's length
abbrev pub token_rows : Record → ℕ → List Row
token_rows r size = row 18 (may_read r) ∷ row 1 (leb size 65535) ∷ []

unfoldable pub reading_token : Record → List ℕ → List ℕ → Outcome
reading_token r d t = decide (limit_rows r ++ token_rows r (length t)) r d (finish r d t (judged r t))
