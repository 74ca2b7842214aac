-- How far the counts can go.
-- Assumes nothing.
use Prim.Native.Nat.{ℕ, zero, suc, ◌+◌, ◌≤◌}
use mathlib.Core.Path.{◌≡◌, refl}
use mathlib.Core.Bool.{Bool, true, false}
use mathlib.Core.List.{List, [], ◌∷◌}
use native.Mathlib.Omega.{arith}
use lib.ListN.{length, get_or}
use lib.Dec.{leb}
use borrow.Author.Tests.{le-leb, leb-true}
use Rattle.octets.proofs.Bools.{both}
use Rattle.message.specs.Layout.{head_of}
use Rattle.message.specs.Show.{schemes_in}
use Rattle.coverage.specs.Coverage.{in_header, in_vector, is_bare, count, header_octets, vector_octets, bare_octets}
use Rattle.coverage.proofs.Sums.{count-not}
use Rattle.offers.specs.declared.Table.{Table}
use Rattle.offers.specs.Table.{pick_table, offered_in}
use Rattle.offers.proofs.Mosts.{set-most, offered-few, offered-counts, offered-others}
use Rattle.tallying.specs.declared.Tally.{Tally}
use Rattle.tallying.specs.Files.{is_nego}
use Rattle.tallying.specs.Tally.{one_more, with_message, with_answer, LIMIT, all_within, totals_within, in_limits}
use Rattle.tallying.specs.Counting.{Bounded}

-- ---- what a message adds
count_most : (f : ℕ → Bool) (n : ℕ) → count f n 0 ≤ n
count_most f n = omega (arith, count-not f n 0)

header-most : (m : List ℕ) → header_octets m ≤ length m
unfolding header_octets
header-most m = count_most (in_header m) (length m)

vector-most : (m : List ℕ) → vector_octets m ≤ length m
unfolding vector_octets
vector-most m = count_most (in_vector m) (length m)

bare-most : (m : List ℕ) → bare_octets m ≤ length m
unfolding bare_octets
bare-most m = count_most (is_bare m) (length m)

-- a table, and one that has at most one more at each place
record Grown (t r : Table) : Type 0 where
  few : t.count ≤ 64 → r.count ≤ 64
  counts : (j : ℕ) → get_or r.counts j 0 ≤ get_or t.counts j 0 + 1
  others : r.others ≤ t.others + 1

grown : (t : Table) (m : List ℕ) (b : Bool) → Grown t (pick_table b (offered_in t (schemes_in m)) t)
grown t m true = record { few = offered-few t (schemes_in m); counts = offered-counts t (schemes_in m); others = offered-others t (schemes_in m) }
grown t m false = record { few = λ h. h; counts = λ j. omega arith; others = omega arith }

-- a list with one more at a place, while each number may grow
more-most : (l : List ℕ) (k n b : ℕ) → ((j : ℕ) → get_or l j 0 ≤ n) → n + 1 ≤ b → (j : ℕ) → get_or (one_more l k) j 0 ≤ b
more-most l k n b h e j = set-most l k (get_or l k 0 + 1) j b (omega (arith, h j)) (omega (arith, h k))

pub bounded-message : (n : ℕ) (t : Tally) (m : List ℕ) → Bounded n t → 1 ≤ length m → Bounded (n + length m) (with_message t m)
unfolding with_message
bounded-message n t m b h =
    let g = grown t.table m (is_nego m) in
    record {
      few = g.few b.few;
      types = more-most t.types (head_of m).kind n (n + length m) b.types (omega arith);
      answers = λ j. omega (arith, b.answers j);
      counts = λ j. omega (arith, b.counts j, g.counts j);
      others = omega (arith, b.others, g.others);
      headers = omega (arith, b.headers, header-most m);
      vectors = omega (arith, b.vectors, vector-most m);
      bare = omega (arith, b.bare, bare-most m);
    }

pub bounded-answer : (n : ℕ) (t : Tally) (a : ℕ) → Bounded n t → Bounded (n + 1) (with_answer t a)
unfolding with_answer
bounded-answer n t a b =
    record {
      few = b.few;
      types = λ j. omega (arith, b.types j);
      answers = more-most t.answers a n (n + 1) b.answers (omega arith);
      counts = λ j. omega (arith, b.counts j);
      others = omega (arith, b.others);
      headers = omega (arith, b.headers);
      vectors = omega (arith, b.vectors);
      bare = omega (arith, b.bare);
    }

pub bounded-more : (n k : ℕ) (t : Tally) → Bounded n t → n ≤ k → Bounded k t
bounded-more n k t b h =
    record {
      few = b.few;
      types = λ j. omega (arith, b.types j);
      answers = λ j. omega (arith, b.answers j);
      counts = λ j. omega (arith, b.counts j);
      others = omega (arith, b.others);
      headers = omega (arith, b.headers);
      vectors = omega (arith, b.vectors);
      bare = omega (arith, b.bare);
    }

-- ---- 18
within-at : (l : List ℕ) → all_within l ≡ true → (j : ℕ) → get_or l j 0 ≤ LIMIT
unfolding all_within
within-at [] e j = omega arith
within-at (n ∷ l) e zero = leb-true n LIMIT (both (leb n LIMIT) (all_within l) e).0
within-at (n ∷ l) e (suc j) = within-at l (both (leb n LIMIT) (all_within l) e).1 j

at-within : (l : List ℕ) → ((j : ℕ) → get_or l j 0 ≤ LIMIT) → all_within l ≡ true
unfolding all_within
at-within [] h = refl
at-within (n ∷ l) h = rw (le-leb n LIMIT (h 0), at-within l (λ j. h (suc j)))

pub limits-bounded : (t : Tally) → in_limits t ≡ true → Bounded LIMIT t
unfolding in_limits totals_within
limits-bounded t e =
    let (c, e1) = both (leb t.table.count 64) _ e in
    let (ty, e2) = both (all_within t.types) _ e1 in
    let (an, e3) = both (all_within t.answers) _ e2 in
    let (co, e4) = both (all_within t.table.counts) _ e3 in
    let (ot, e5) = both (leb t.table.others LIMIT) _ e4 in
    let (he, e6) = both (leb t.headers LIMIT) _ e5 in
    let (ve, ba) = both (leb t.vectors LIMIT) (leb t.bare LIMIT) e6 in
    record {
      few = leb-true _ _ c;
      types = within-at t.types ty;
      answers = within-at t.answers an;
      counts = within-at t.table.counts co;
      others = leb-true _ _ ot;
      headers = leb-true _ _ he;
      vectors = leb-true _ _ ve;
      bare = leb-true _ _ ba;
    }

pub bounded-limits : (t : Tally) → Bounded LIMIT t → in_limits t ≡ true
unfolding in_limits totals_within
bounded-limits t b =
    rw (
      le-leb _ _ b.few,
      at-within t.types b.types,
      at-within t.answers b.answers,
      at-within t.table.counts
          b.counts,
      le-leb _ _ b.others,
      le-leb _ _ b.headers,
      le-leb _ _ b.vectors,
      le-leb _ _ b.bare,
    )
