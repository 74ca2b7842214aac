-- The table of schemes as the record keeps it: 64 places, 16 octets an id, and a count for each.
--
-- Glossary
--   names_in t      the ids of a table
--   offers_in t     what a table says
--   pick_table      one of two tables
--   entered_in t s  t with s entered; entered_all_in t ss: with each of ss
--   ticked_from     of n counts from place k on, each with one more where ss has its id
--   ticked_in t ss  t with the counts of a message more, whose schemes are entered; offered_in t ss: t with a message more
--   Counting t      a table that has room to count in
--   Kept t          the table's arrays have their sizes, and it has at most 64 ids
--   AllIds ss       each of ss has 16 octets
--   TableOffers     the table with a message more says what it said, with a message more
use Rattle.std.specs.Prelude.{ℕ, zero, suc, ◌+◌, ◌*◌, ◌≤◌, ◌<◌, ◌≡◌, Bool, true, false, not, ◌||◌, List, [], ◌∷◌, length, get_or, set, take, leb}
use Rattle.octets.specs.Octets.{octets}
use Rattle.message.specs.Show.{ids_at}
use Rattle.put.specs.Put.{put}
use Rattle.schemes.specs.Lists.{Id, mem}
use Rattle.offers.specs.declared.Table.{Table}
use Rattle.offers.specs.Offers.{Offers, all_in, with_offer}
use Rattle.coverage.specs.Coverage.{one}

abbrev pub names_in : Table → List Id
names_in t = ids_at t.count t.ids

abbrev pub pick_table : Bool → Table → Table → Table
pick_table true a b = a
pick_table false a b = b

unfoldable pub entered_in : Table → Id → Table
entered_in t s =
    pick_table (mem s (names_in t) || leb 64 t.count) t
    (record { ids = put t.ids (16 * t.count) s; counts = set t.counts t.count 0; count = t.count + 1; others = t.others })

unfoldable pub entered_all_in : Table → List Id → Table
entered_all_in t [] = t
entered_all_in t (s ∷ ss) = entered_all_in (entered_in t s) ss

unfoldable pub ticked_from : List ℕ → List Id → ℕ → ℕ → List ℕ → List ℕ
ticked_from ids ss zero k counts = counts
ticked_from ids ss (suc n) k counts =
    ticked_from ids ss n (k + 1) (set counts k (get_or counts k 0 + one (mem (octets 16 ids (k * 16)) ss)))

abbrev pub ticked_in : Table → List Id → Table
ticked_in t ss = record {
  ids = t.ids;
  counts = ticked_from t.ids ss t.count 0 t.counts;
  count = t.count;
  others = t.others + one (not (all_in ss (names_in t)));
}

unfoldable pub offered_in : Table → List Id → Table
offered_in t ss = ticked_in (entered_all_in t ss) ss

abbrev pub offers_in : Table → Offers
offers_in t = record { ids = names_in t; counts = take t.count t.counts; others = t.others }

pub record Counting (t : Table) : Type 0 where
  pub few : t.count ≤ 64
  pub small : (j : ℕ) → get_or t.counts j 0 < 9223372036854775808
  pub rest : t.others < 9223372036854775808

pub record Kept (t : Table) : Type 0 where
  pub octets : length t.ids ≡ 1024
  pub places : length t.counts ≡ 64
  pub few : t.count ≤ 64

abbrev pub AllIds : List Id → Type 0
AllIds [] = Unit {0}
AllIds (s ∷ ss) = (length s ≡ 16) × AllIds ss

abbrev pub TableOffers : Type 0
TableOffers = (t : Table) (ss : List Id) → Kept t → AllIds ss → offers_in (offered_in t ss) ≡ with_offer (offers_in t) ss
