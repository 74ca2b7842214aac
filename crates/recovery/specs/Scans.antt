-- The reading of a damaged capture at work, octet by octet or message by message: what the functions of src/ promise.
--
-- Glossary
--   Scanned            a reading at work: how far it is, and its window's buffer; scanned builds one
--   stretch a b        the texts of the line of the stretch skipped from a up to, not including, b; none where there is none
--   taken_by s t n     the reading s after a message of n octets is taken, whose lines come to t; skipped_by s d: after an octet is skipped
--   advanced r s d     the reading s after one turn, the octets from its place on being r
--   ShowsPieces f t s  d  the reading s of the file f, and the buffer d, are what all pieces come to from t on
--   InFile s n         the reading s is inside a file that has n octets from its place on, and that is not too long
use Rattle.std.specs.Prelude.{ℕ, ◌+◌, ◌≤◌, ◌≡◌, cond, List, [], length}
use Rattle.message.specs.Layout.{size, front}
use Rattle.lines.specs.Lines.{message_lines}
use Rattle.windows.specs.Windows.{texts}
use Rattle.windows.specs.Steps.{State, within, steps}
use Rattle.recovery.specs.declared.Scan.{Scan}
use Rattle.recovery.specs.Recovery.{readable, taken_of, skip_to, pieces_of, all_piece_lines}

pub record Scanned : Type 0 where
  pub scan : Scan
  pub buffer : List ℕ

abbrev pub scanned : Scan → List ℕ → Scanned
scanned s d = record { scan = s; buffer = d }

abbrev pub stretch : ℕ → ℕ → List (List ℕ)
stretch a b = texts (all_piece_lines (skip_to a b []))

abbrev pub taken_by : Scan → State → ℕ → Scanned
taken_by s t n =
    record {
      scan = record { progress = t.progress; place = record { 0 = s.place.0 + n }; end = record { 0 = s.place.0 + n }; taken = s.taken + 1 };
      buffer = t.buffer;
    }

abbrev pub skipped_by : Scan → List ℕ → Scanned
skipped_by s d =
    record { scan = record { progress = s.progress; place = record { 0 = s.place.0 + 1 }; end = s.end; taken = s.taken }; buffer = d }

-- "that message is taken and reading goes on behind it; elsewhere one octet is skipped"
unfoldable pub advanced : List ℕ → Scan → List ℕ → Scanned
advanced rest s d =
    cond (readable rest)
    (taken_by s (steps (texts (message_lines s.place.0 (front rest))) (steps (stretch s.end.0 s.place.0) (within s.progress d)))
    (size rest))
    (skipped_by s d)

pub record InFile (s : Scan) (left : ℕ) : Type 0 where
  pub short : s.place.0 + left ≤ 65535
  pub few : s.taken ≤ s.place.0

pub record ShowsPieces (file : List ℕ) (t : State) (s : Scan) (d : List ℕ) : Type 0 where
  pub shows : within s.progress d ≡ steps (texts (all_piece_lines (pieces_of file))) t
  pub counts : s.taken ≡ length (taken_of file)
