-- The schemes that NEGO messages list. Document 02, C-23. A message stands here as the list of its schemes.
--
-- Glossary
--   entered l s       l with s behind it, where l does not mention s and has fewer than 64; entered_all l ss: with each of ss entered in order
--   mentioned ms      the schemes that messages list, one message behind the other
--   first_schemes ms  the first 64 different schemes that messages list, by first mention
--   listing s ms      how many messages list s, a repeat inside one message counting once; listings l ms: of each scheme of l
--   all_in m l        every scheme of m stands in l
--   beyond l ms       how many messages list a scheme that is not in l
--   Offers            the schemes that are counted one by one, the count of each, and how many messages list others
--   offers_of ms      those of messages
--   ticked l ns m     counts of the schemes of l, each with one more where m lists it; a scheme with no count yet had none
--   with_offer t m    t with one message more; with_offers: with each of messages in order
--   OfferCounted      counting one message more is counting all of them
use Rattle.std.specs.Prelude.{ℕ, ◌+◌, ◌≡◌, Bool, true, cond, not, ◌&&◌, ◌||◌, List, [], ◌∷◌, ◌++◌, length, leb}
use Rattle.schemes.specs.Lists.{Id, mem}
use Rattle.coverage.specs.Coverage.{one}

unfoldable pub entered : List Id → Id → List Id
entered l s = cond (mem s l || leb 64 (length l)) l (l ++ (s ∷ []))

unfoldable pub entered_all : List Id → List Id → List Id
entered_all l [] = l
entered_all l (s ∷ ss) = entered_all (entered l s) ss

unfoldable pub mentioned : List (List Id) → List Id
mentioned [] = []
mentioned (m ∷ ms) = m ++ mentioned ms

-- "the first 64 different schemes offered, by first mention"
unfoldable pub first_schemes : List (List Id) → List Id
first_schemes ms = entered_all [] (mentioned ms)

-- "how many NEGO messages list it (a repeat inside one message counts once)"
unfoldable pub listing : Id → List (List Id) → ℕ
listing s [] = 0
listing s (m ∷ ms) = one (mem s m) + listing s ms

unfoldable pub all_in : List Id → List Id → Bool
all_in [] l = true
all_in (s ∷ m) l = mem s l && all_in m l

-- "how many list any other scheme"
unfoldable pub beyond : List Id → List (List Id) → ℕ
beyond l [] = 0
beyond l (m ∷ ms) = one (not (all_in m l)) + beyond l ms

unfoldable pub listings : List Id → List (List Id) → List ℕ
listings [] ms = []
listings (s ∷ l) ms = listing s ms ∷ listings l ms

pub record Offers : Type 0 where
  pub ids : List Id
  pub counts : List ℕ
  pub others : ℕ

unfoldable pub offers_of : List (List Id) → Offers
offers_of ms = record { ids = first_schemes ms; counts = listings (first_schemes ms) ms; others = beyond (first_schemes ms) ms }

unfoldable pub ticked : List Id → List ℕ → List Id → List ℕ
ticked [] ns m = []
ticked (s ∷ l) [] m = one (mem s m) ∷ ticked l [] m
ticked (s ∷ l) (n ∷ ns) m = (n + one (mem s m)) ∷ ticked l ns m

unfoldable pub with_offer : Offers → List Id → Offers
with_offer t m = record {
  ids = entered_all t.ids m;
  counts = ticked (entered_all t.ids m) t.counts m;
  others = t.others + one (not (all_in m (entered_all t.ids m)));
}

unfoldable pub with_offers : Offers → List (List Id) → Offers
with_offers t [] = t
with_offers t (m ∷ ms) = with_offers (with_offer t m) ms

abbrev pub OfferCounted : Type 0
OfferCounted = (ms : List (List Id)) (m : List Id) → with_offer (offers_of ms) m ≡ offers_of (ms ++ (m ∷ []))
