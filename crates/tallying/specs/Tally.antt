-- The tally record, one file after the other. Document 02, C-23: "Keep one tally record, lent to each reading and updated in it."
--
-- Glossary
--   totals_in t       what the record says
--   empty_tally       the record that says nothing
--   one_more l k      l with the number at place k one greater; as it was where there is no such place
--   with_message t m  t with a message more; with_messages: with each of messages in order
--   with_answer t n   t with a file more that was answered with n
--   tallied t f       t with the file f more
--   LIMIT             the greatest count or total; all_within l: no number of l is greater; totals_within t: none of the single ones of t
--   in_limits t       what 18 asks of a record
--   pick_counted      one of two answers
--   counted_of t f    the answer to the file f: its number, or 18, and the record afterwards
--   run_of t fs       the record after files, counted one by one
--   TallyOfFiles      the tally of files, counted one by one from the empty one, says what the definition over the files says
--   NeverRefused      and none of 65,536 files or fewer is answered with 18
--   RefusedAlone      a file that is refused adds to its number's count alone; MissingAlone: one that can't be opened to 27's
--   OutsideUnchanged  a record outside its limits is answered with 18 and stays as it was
use Rattle.std.specs.Prelude.{ℕ, ◌+◌, ◌≤◌, ◌<◌, ◌≡◌, Bool, true, false, ◌&&◌, List, [], ◌∷◌, length, get_or, set, replicate, leb}
use Rattle.message.specs.Layout.{head_of}
use Rattle.message.specs.Show.{schemes_in}
use Rattle.token.specs.Token.{Refused, token_of}
use Rattle.coverage.specs.Coverage.{header_octets, vector_octets, bare_octets}
use Rattle.offers.specs.Table.{pick_table, offered_in, offers_in}
use Rattle.tallying.specs.declared.Tally.{Tally}
use Rattle.tallying.specs.declared.Counted.{Counted}
use Rattle.tallying.specs.Files.{File, Opened, Missing, messages_in, answer_of, is_nego, Totals, totals_of}

abbrev pub totals_in : Tally → Totals
totals_in t = record {
  types = t.types;
  answers = t.answers;
  headers = t.headers;
  vectors = t.vectors;
  bare = t.bare;
  offers = offers_in t.table;
}

abbrev pub empty_tally : Tally
empty_tally = record {
  types = replicate 8 0;
  answers = replicate 32 0;
  table = record { ids = replicate 1024 0; counts = replicate 64 0; count = 0; others = 0 };
  headers = 0;
  vectors = 0;
  bare = 0;
}

abbrev pub one_more : List ℕ → ℕ → List ℕ
one_more l k = set l k (get_or l k 0 + 1)

unfoldable pub with_message : Tally → List ℕ → Tally
with_message t m = record {
  types = one_more t.types (head_of m).kind;
  answers = t.answers;
  table = pick_table (is_nego m) (offered_in t.table (schemes_in m)) t.table;
  headers = t.headers + header_octets m;
  vectors = t.vectors + vector_octets m;
  bare = t.bare + bare_octets m;
}

unfoldable pub with_messages : Tally → List (List ℕ) → Tally
with_messages t [] = t
with_messages t (m ∷ ms) = with_messages (with_message t m) ms

unfoldable pub with_answer : Tally → ℕ → Tally
with_answer t n = record {
  types = t.types;
  answers = one_more t.answers n;
  table = t.table;
  headers = t.headers;
  vectors = t.vectors;
  bare = t.bare;
}

abbrev pub tallied : Tally → File → Tally
tallied t f = with_answer (with_messages t (messages_in f)) (answer_of f)

abbrev pub LIMIT : ℕ
LIMIT = 4294967295

unfoldable pub all_within : List ℕ → Bool
all_within [] = true
all_within (n ∷ ns) = leb n LIMIT && all_within ns

unfoldable pub totals_within : Tally → Bool
totals_within t = leb t.table.others LIMIT && (leb t.headers LIMIT && (leb t.vectors LIMIT && leb t.bare LIMIT))

-- "18 first, for a tally .. of over 64 schemes or with a count or total above 4,294,967,295"
unfoldable pub in_limits : Tally → Bool
in_limits t = leb t.table.count 64 && (all_within t.types && (all_within t.answers && (all_within t.table.counts && totals_within t)))

abbrev pub pick_counted : Bool → Counted → Counted → Counted
pick_counted true a b = a
pick_counted false a b = b

unfoldable pub counted_of : Tally → File → Counted
counted_of t f = pick_counted (in_limits t) (record { refusal = answer_of f; tally = tallied t f }) (record { refusal = 18; tally = t })

unfoldable pub run_of : Tally → List File → Tally
run_of t [] = t
run_of t (f ∷ fs) = run_of (counted_of t f).tally fs

abbrev pub TallyOfFiles : Type 0
TallyOfFiles = (fs : List File) → length fs ≤ 65536 → totals_in (run_of empty_tally fs) ≡ totals_of fs

abbrev pub NeverRefused : Type 0
NeverRefused =
    (fs : List File) (f : File) → length fs < 65536
    → counted_of (run_of empty_tally fs) f ≡ record { refusal = answer_of f; tally = tallied (run_of empty_tally fs) f }

-- "A refused file adds to its refusal count only."
abbrev pub RefusedAlone : Type 0
RefusedAlone = (t : Tally) (s : List ℕ) (n place : ℕ) → token_of s ≡ Refused n place → tallied t (Opened s) ≡ with_answer t n

abbrev pub MissingAlone : Type 0
MissingAlone = (t : Tally) → tallied t Missing ≡ with_answer t 27

abbrev pub OutsideUnchanged : Type 0
OutsideUnchanged = (t : Tally) (f : File) → in_limits t ≡ false → counted_of t f ≡ record { refusal = 18; tally = t }
