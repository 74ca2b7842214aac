-- The tally of files, from the files alone. Document 02, C-23.
--
-- Glossary
--   File           a file as it comes to the count: its octets, or one that can't be opened
--   all_octets ps  the octets of placed messages
--   number_of r    the number that a reading refuses with, 0 where it accepts
--   messages_in f  the messages of a file that is accepted, none of another; all_messages fs: those of files, in order
--   answer_of f    the number that a file is refused with, 0 where it is accepted
--   size_by r n    n where a reading accepts, 0 where it refuses
--   size_in f      the octets of a file that is accepted, 0 of another; all_sizes fs: those of files
--   typed k ms     how many of messages have the type k
--   sum_of g ms    the sum of g over messages
--   is_nego m      the type of m is 0 or 1; lists_in ms: the lists of schemes of those that are
--   answered n fs  how many files are answered with the number n
--   of_each n k f  f at each of the n numbers from k on
--   Totals         what a tally says; totals_of fs: of files
--   OctetsOfFiles  the three totals of octets sum to the octets of the accepted files
use Rattle.std.specs.Prelude.{ℕ, zero, suc, ◌+◌, ◌≡◌, Bool, cond, List, [], ◌∷◌, ◌++◌, length, leb, eqb}
use Rattle.message.specs.Layout.{head_of}
use Rattle.message.specs.Show.{schemes_in}
use Rattle.token.specs.Token.{Placed, Reading, Accepted, Refused, token_of}
use Rattle.token.specs.Walk.{messages_of}
use Rattle.schemes.specs.Lists.{Id}
use Rattle.coverage.specs.Coverage.{one, header_octets, vector_octets, bare_octets}
use Rattle.offers.specs.Offers.{Offers, offers_of}

pub data File : Type 0 where
  Opened : (octets : List ℕ) → File
  Missing : File

abbrev pub all_octets : List Placed → List (List ℕ)
all_octets [] = []
all_octets (p ∷ ps) = p.octets ∷ all_octets ps

abbrev pub number_of : Reading → ℕ
number_of (Accepted ps) = 0
number_of (Refused n place) = n

abbrev pub messages_in : File → List (List ℕ)
messages_in (Opened s) = all_octets (messages_of (token_of s))
messages_in Missing = []

-- "1 for a file too long, 27 for one that can't be opened"
abbrev pub answer_of : File → ℕ
answer_of (Opened s) = number_of (token_of s)
answer_of Missing = 27

abbrev pub size_by : Reading → ℕ → ℕ
size_by (Accepted ps) n = n
size_by (Refused m place) n = 0

abbrev pub size_in : File → ℕ
size_in (Opened s) = size_by (token_of s) (length s)
size_in Missing = 0

unfoldable pub all_messages : List File → List (List ℕ)
all_messages [] = []
all_messages (f ∷ fs) = messages_in f ++ all_messages fs

unfoldable pub all_sizes : List File → ℕ
all_sizes [] = 0
all_sizes (f ∷ fs) = size_in f + all_sizes fs

-- "type T count=N"
unfoldable pub typed : ℕ → List (List ℕ) → ℕ
typed k [] = 0
typed k (m ∷ ms) = one (eqb (head_of m).kind k) + typed k ms

-- "octets in headers", "octets covered by vectors", "octets that nothing covers"
unfoldable pub sum_of : (List ℕ → ℕ) → List (List ℕ) → ℕ
sum_of g [] = 0
sum_of g (m ∷ ms) = g m + sum_of g ms

abbrev pub is_nego : List ℕ → Bool
is_nego m = leb (head_of m).kind 1

unfoldable pub lists_in : List (List ℕ) → List (List Id)
lists_in [] = []
lists_in (m ∷ ms) = cond (is_nego m) (schemes_in m ∷ lists_in ms) (lists_in ms)

-- "refused R count=N"; place 0 has the accepted ones
unfoldable pub answered : ℕ → List File → ℕ
answered n [] = 0
answered n (f ∷ fs) = one (eqb (answer_of f) n) + answered n fs

unfoldable pub of_each : ℕ → ℕ → (ℕ → ℕ) → List ℕ
of_each zero k f = []
of_each (suc n) k f = f k ∷ of_each n (k + 1) f

pub record Totals : Type 0 where
  pub types : List ℕ
  pub answers : List ℕ
  pub headers : ℕ
  pub vectors : ℕ
  pub bare : ℕ
  pub offers : Offers

-- "each total is defined from the files and not from the record"
unfoldable pub totals_of : List File → Totals
totals_of fs = record {
  types = of_each 8 0 (λ k. typed k (all_messages fs));
  answers = of_each 32 0 (λ n. answered n fs);
  headers = sum_of header_octets (all_messages fs);
  vectors = sum_of vector_octets (all_messages fs);
  bare = sum_of bare_octets (all_messages fs);
  offers = offers_of (lists_in (all_messages fs));
}

-- "The three octet totals of accepted files must sum to the octets of those files"
abbrev pub OctetsOfFiles : Type 0
OctetsOfFiles = (fs : List File) → (totals_of fs).headers + (totals_of fs).vectors + (totals_of fs).bare ≡ all_sizes fs
