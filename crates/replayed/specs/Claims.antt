-- What two ends wrote in a run is replayed as they read it. Document 02, C-19: "If both files come from our two ends with the same lists and marks,
-- every message read, the replay ends with the same choice and the same transcript."
--
-- Glossary
--   AllRead o cs    in the run every message that is written is read
--   MarksAre        every accepted call with marks of an end had these
--   case_of         the case of a run: its lists, marks, and a file of what each end wrote
--   SameTranscript  a record and a transcript have what an end of a run has read and written
--   SameEnds        a replay ends without refusal, with the choice of a run, and both sides as its ends
--   ReplaysRun      a run whose messages are all read is replayed without refusal, to the same choice and the same transcripts
use Rattle.std.specs.Prelude.{ℕ, ◌≤◌, ◌≡◌, Bool, true, false, List, length, take}
use Rattle.std.proofs.Math.Option.{some}
use Rattle.token.specs.Split.{join}
use Rattle.schemes.specs.Lists.{join_ids}
use Rattle.schemes.specs.Sets.{below}
use Rattle.conversation.specs.Runs.{Call, End, Opening, world, ends, Replied, ChoseWith}
use Rattle.conversation.specs.Claims.{written_in, read_in}
use Rattle.conversation.specs.declared.Record.{Record}
use Rattle.sides.specs.Replay.{Case, Played, finished, choice_of, replay_of}

-- "every message read": what an end writes is what the other reads, in order
pub record AllRead (o : Opening) (cs : List (Bool × Call)) : Type 0 where
  pub by_acceptor : written_in false (world o) cs ≡ read_in true (world o) cs
  pub by_initiator : written_in true (world o) cs ≡ read_in false (world o) cs

-- "with the same lists and marks": an end has at most one such call (`MarksOnce`); without one, any marks that the list has places for
pub record MarksAre (o : Opening) (cs : List (Bool × Call)) (mi ma : ℕ) : Type 0 where
  pub chosen : (m : ℕ) → ChoseWith o cs m → m ≡ mi
  pub replied : (m : ℕ) → Replied o cs m → m ≡ ma
  pub initiator_below : below (length o.initiator) mi ≡ true
  pub acceptor_below : below (length o.acceptor) ma ≡ true

-- "both files come from our two ends": "one file per direction, each holding that side's messages in order"
abbrev pub case_of : Opening → List (Bool × Call) → ℕ → ℕ → Case
case_of o cs mi ma = record {
  i = record { list = join_ids o.initiator; marks = mi; file = some (join (written_in false (world o) cs)) };
  a = record { list = join_ids o.acceptor; marks = ma; file = some (join (written_in true (world o) cs)) };
}

-- "the same transcript": what the end has read and written
abbrev pub SameTranscript : Record → List ℕ → End → Type 0
SameTranscript r d e = take r.used d ≡ take e.record_of.used e.transcript

-- "the replay ends with the same choice and the same transcript"
pub record SameEnds (o : Opening) (cs : List (Bool × Call)) (p : Played) : Type 0 where
  pub unrefused : p.ending ≡ finished
  pub choice : choice_of p.sides.i ≡ choice_of (ends (world o) cs).i.record_of
  pub initiator : SameTranscript p.sides.i p.sides.transcript (ends (world o) cs).i
  pub acceptor : SameTranscript p.sides.a p.sides.transcript (ends (world o) cs).a

-- "If both files come from our two ends with the same lists and marks, every message read", the replay's transcript having all the room there is
abbrev pub ReplaysRun : Type 0
ReplaysRun =
    (o : Opening) (cs : List (Bool × Call)) (mi ma : ℕ) → AllRead o cs → MarksAre o cs mi ma → (d : List ℕ) → 65535 ≤ length d
    → SameEnds o cs (replay_of (case_of o cs mi ma) d)
