-- Files counted one by one are the tally of the files.
-- Assumes nothing.
use Prim.Native.Nat.{ℕ, zero, suc, ◌+◌, ◌*◌, ◌/◌, ◌≤◌, ◌<◌}
use mathlib.Core.Path.{◌≡◌, refl, sym, ap, subst, ◌∙◌}
use mathlib.Core.Bool.{Bool, true, false, cond}
use mathlib.Core.List.{List, [], ◌∷◌, ◌++◌, append_assoc, append-nil}
use native.Mathlib.Nat.{zero-add}
use native.Mathlib.Omega.{arith}
use lib.ListN.{length, get_or, replicate, length-append, length-replicate}
use lib.Dec.{eqb}
use borrow.Author.Tests.{eq-eqb, ne_eqb}
use Rattle.vector.specs.Vector.{shown}
use Rattle.message.specs.Layout.{head_of, scheme_vector}
use Rattle.message.specs.Show.{ids_at, ids_of, schemes_in}
use Rattle.token.specs.Token.{Reading, Accepted, Refused, token_of}
use Rattle.token.specs.Walk.{messages_of, Accepts}
use Rattle.token.specs.Split.{Numbered, join}
use Rattle.token.proofs.Splits.{message-length}
use Rattle.token.proofs.Walks.{whole, accepted-short}
use Rattle.coverage.specs.Coverage.{one, header_octets, vector_octets, bare_octets}
use Rattle.offers.specs.Offers.{Offers, entered_all, mentioned, first_schemes, listings, beyond, offers_of, with_offer}
use Rattle.offers.specs.Table.{pick_table, offered_in, offers_in, Kept, AllIds}
use Rattle.offers.proofs.Stable.{offer-counted}
use Rattle.offers.proofs.Views.{table-offers, kept-offered, ids-each}
use Rattle.tallying.specs.declared.Tally.{Tally}
use Rattle.tallying.specs.declared.Counted.{Counted}
use Rattle.tallying.specs.Files.{File, Opened, Missing, all_octets, messages_in, answer_of, all_messages, typed, sum_of, is_nego, lists_in, answered, of_each, totals_of}
use Rattle.tallying.specs.Tally.{empty_tally, one_more, with_message, with_messages, with_answer, tallied, LIMIT, in_limits, counted_of, run_of, TallyOfFiles, NeverRefused, RefusedAlone, MissingAlone, OutsideUnchanged}
use Rattle.tallying.specs.Counting.{Bounded}
use Rattle.tallying.proofs.Bounds.{bounded-message, bounded-answer, bounded-more, bounded-limits}
use Rattle.tallying.proofs.Steps.{left-octets}

-- ---- counts at each number
each_same : (n k : ℕ) (f g : ℕ → ℕ) → ((j : ℕ) → f j ≡ g j) → of_each n k f ≡ of_each n k g
unfolding of_each
each_same zero k f g e = refl
each_same (suc n) k f g e = rw (e k, each_same n (k + 1) f g e)

-- one more at a place is one more of the number that stands for it
more-from : (n k p : ℕ) (f : ℕ → ℕ) → one_more (of_each n k f) p ≡ of_each n k (λ j. one (eqb (k + p) j) + f j)
unfolding of_each one
more-from zero k p f = none p where
  none : (q : ℕ) → one_more [] q ≡ []
  none zero = refl
  none (suc q) = refl
more-from (suc n) k zero f =
    let e : eqb (k + 0) k ≡ true = eq-eqb (k + 0) k (omega arith) in
    let a : f k + 1 ≡ 1 + f k = omega arith in
    let r : of_each n (k + 1) f ≡ of_each n (k + 1) (λ j. one (eqb (k + 0) j) + f j) = above n (k + 1) (omega arith) in
    rw (e, a, ← r) where
      above : (n i : ℕ) → k < i → of_each n i f ≡ of_each n i (λ j. one (eqb (k + 0) j) + f j)
      above zero i h = unfold of_each in refl
      above (suc n) i h =
          let e : eqb (k + 0) i ≡ false = ne_eqb (k + 0) i (λ q. omega arith) in
          let a : 0 + f i ≡ f i = omega arith in
          unfold of_each one in (rw (e, a, ← above n (i + 1) (omega arith)))
more-from (suc n) k (suc p) f =
    let e : eqb (k + suc p) k ≡ false = ne_eqb (k + suc p) k (λ q. omega arith) in
    let a : 0 + f k ≡ f k = omega arith in
    let z : k + 1 + p ≡ k + suc p = omega arith in
    let r : one_more (of_each n (k + 1) f) p ≡ of_each n (k + 1) (λ j. one (eqb (k + suc p) j) + f j) = rw z at (more-from n (k + 1) p f) in
    rw (e, a, ← r)

-- ---- one message more
typed-snoc : (k : ℕ) (ms : List (List ℕ)) (m : List ℕ) → typed k (ms ++ (m ∷ [])) ≡ one (eqb (head_of m).kind k) + typed k ms
unfolding typed
typed-snoc k [] m = refl
typed-snoc k (x ∷ ms) m = omega (arith, typed-snoc k ms m)

sum-snoc : (g : List ℕ → ℕ) (ms : List (List ℕ)) (m : List ℕ) → sum_of g (ms ++ (m ∷ [])) ≡ sum_of g ms + g m
unfolding sum_of
sum-snoc g [] m = omega arith
sum-snoc g (x ∷ ms) m = omega (arith, sum-snoc g ms m)

lists-snoc : (ms : List (List ℕ)) (m : List ℕ) → lists_in (ms ++ (m ∷ [])) ≡ cond (is_nego m) (lists_in ms ++ (schemes_in m ∷ [])) (lists_in ms)
unfolding lists_in
lists-snoc [] m = refl
lists-snoc (x ∷ ms) m = go (is_nego x) (is_nego m) (lists-snoc ms m) where
  go : (a b : Bool) → lists_in (ms ++ (m ∷ [])) ≡ cond b (lists_in ms ++ (schemes_in m ∷ [])) (lists_in ms)
      → cond a (schemes_in x ∷ lists_in (ms ++ (m ∷ []))) (lists_in (ms ++ (m ∷ [])))
      ≡ cond b (cond a (schemes_in x ∷ lists_in ms) (lists_in ms) ++ (schemes_in m ∷ [])) (cond a (schemes_in x ∷ lists_in ms) (lists_in ms))
  go true true e = rw e
  go true false e = rw e
  go false true e = e
  go false false e = e

answered-snoc : (n : ℕ) (fs : List File) (f : File) → answered n (fs ++ (f ∷ [])) ≡ one (eqb (answer_of f) n) + answered n fs
unfolding answered
answered-snoc n [] f = refl
answered-snoc n (g ∷ fs) f = omega (arith, answered-snoc n fs f)

-- each scheme of a NEGO has 16 octets
listed-ids : (m : List ℕ) → AllIds (schemes_in m)
unfolding schemes_in
listed-ids m = each (shown 96 m (scheme_vector m)) where
  each : (a : List ℕ) → AllIds (ids_of a)
  each a = ids-each (length a / 16) a (omega arith)

-- a record that says what the messages ms and the files fs hold
record Agrees (t : Tally) (ms : List (List ℕ)) (fs : List File) : Type 0 where
  types : t.types ≡ of_each 8 0 (λ k. typed k ms)
  answers : t.answers ≡ of_each 32 0 (λ n. answered n fs)
  headers : t.headers ≡ sum_of header_octets ms
  vectors : t.vectors ≡ sum_of vector_octets ms
  bare : t.bare ≡ sum_of bare_octets ms
  offers : offers_in t.table ≡ offers_of (lists_in ms)
  kept : Kept t.table

module _ (t : Tally) (ms : List (List ℕ)) (fs : List File) (a : Agrees t ms fs) where
  table_kept : (m : List ℕ) (b : Bool) → Kept (pick_table b (offered_in t.table (schemes_in m)) t.table)
  table_kept m true = kept-offered t.table (schemes_in m) a.kept (listed-ids m)
  table_kept m false = a.kept

  table-says : (m : List ℕ) (b : Bool)
      → offers_in (pick_table b (offered_in t.table (schemes_in m)) t.table) ≡ offers_of (cond b (lists_in ms ++ (schemes_in m ∷ [])) (lists_in ms))
  table-says m true =
      table-offers t.table (schemes_in m) a.kept (listed-ids m)
      ∙ ap (λ (o : Offers). with_offer o (schemes_in m)) a.offers ∙ offer-counted (lists_in ms) (schemes_in m)
  table-says m false = a.offers

  agrees-message : (m : List ℕ) → Agrees (with_message t m) (ms ++ (m ∷ [])) fs
  unfolding with_message
  agrees-message m =
      record {
        types = ap (λ (l : List ℕ). one_more l (head_of m).kind) a.types ∙ more-from 8 0 (head_of m).kind (λ k. typed k ms)
            ∙ each_same 8 0 _ _ (λ j. ap (λ (q : ℕ). one (eqb q j) + typed j ms) (zero-add (head_of m).kind) ∙ sym (typed-snoc j ms m));
        answers = a.answers;
        headers = ap (λ (x : ℕ). x + header_octets m) a.headers ∙ sym (sum-snoc header_octets ms m);
        vectors = ap (λ (x : ℕ). x + vector_octets m) a.vectors ∙ sym (sum-snoc vector_octets ms m);
        bare = ap (λ (x : ℕ). x + bare_octets m) a.bare ∙ sym (sum-snoc bare_octets ms m);
        offers = table-says m (is_nego m) ∙ ap offers_of (sym (lists-snoc ms m));
        kept = table_kept m (is_nego m);
      }

  agrees-answer : (f : File) → Agrees (with_answer t (answer_of f)) ms (fs ++ (f ∷ []))
  unfolding with_answer
  agrees-answer f =
      record {
        types = a.types;
        answers = ap (λ (l : List ℕ). one_more l (answer_of f)) a.answers ∙ more-from 32 0 (answer_of f) (λ n. answered n fs)
            ∙ each_same 32 0 _ _ (λ j. ap (λ (q : ℕ). one (eqb q j) + answered j fs) (zero-add (answer_of f)) ∙ sym (answered-snoc j fs f));
        headers = a.headers;
        vectors = a.vectors;
        bare = a.bare;
        offers = a.offers;
        kept = a.kept;
      }

agrees-messages : (t : Tally) (ms ks : List (List ℕ)) (fs : List File) → Agrees t ms fs → Agrees (with_messages t ks) (ms ++ ks) fs
unfolding with_messages
agrees-messages t ms [] fs a = subst (λ (l : List (List ℕ)). Agrees t l fs) (sym (append-nil ms)) a
agrees-messages t ms (k ∷ ks) fs a =
    subst (λ (l : List (List ℕ)). Agrees (with_messages (with_message t k) ks) l fs) (append_assoc ms (k ∷ []) ks)
    (agrees-messages (with_message t k) (ms ++ (k ∷ [])) ks fs (agrees-message t ms fs a k))

-- ---- one file more
messages-snoc : (fs : List File) (f : File) → all_messages (fs ++ (f ∷ [])) ≡ all_messages fs ++ messages_in f
unfolding all_messages
messages-snoc [] f = append-nil (messages_in f)
messages-snoc (g ∷ fs) f =
    ap (λ (l : List (List ℕ)). messages_in g ++ l) (messages-snoc fs f) ∙ sym (append_assoc (messages_in g) (all_messages fs) (messages_in f))

agrees-file : (t : Tally) (fs : List File) (f : File) → Agrees t (all_messages fs) fs
    → Agrees (tallied t f) (all_messages (fs ++ (f ∷ []))) (fs ++ (f ∷ []))
agrees-file t fs f a =
    subst (λ (l : List (List ℕ)). Agrees (tallied t f) l (fs ++ (f ∷ []))) (sym (messages-snoc fs f))
    (agrees-answer (with_messages t (messages_in f)) (all_messages fs ++ messages_in f) fs (agrees-messages t (all_messages fs) (messages_in f) fs a) f)

bounded-messages : (n q : ℕ) (v : List ℕ) (ms : List (List ℕ)) (t : Tally) → Numbered q v ms → Bounded n t
    → Bounded (n + length (join ms)) (with_messages t ms)
unfolding with_messages
bounded-messages n q v [] t e b = bounded-more n (n + 0) t b (omega arith)
bounded-messages n q v (m ∷ ms) t e b =
    bounded-more (n + length m + length (join ms)) (n + length (m ++ join ms)) _
    (bounded-messages (n + length m) (q + 1) v ms (with_message t m) e.1 (bounded-message n t m b (omega (arith, message-length q v m e.0))))
    (omega (arith, length-append m (join ms)))

-- a file adds at most 65,536 to each
bounded-file : (n : ℕ) (t : Tally) (f : File) → Bounded n t → Bounded (n + 65536) (tallied t f)
bounded-file n t Missing b = bounded-more (n + 1) (n + 65536) _ (bounded-answer n (with_messages t []) 27 (unfold with_messages in b)) (omega arith)
bounded-file n t (Opened s) b =
    bounded-more (n + 65535 + 1) (n + 65536) _ (bounded-answer (n + 65535) _ (answer_of (Opened s)) (go (token_of s) refl)) (omega arith) where
      go : (r : Reading) → token_of s ≡ r → Bounded (n + 65535) (with_messages t (all_octets (messages_of (token_of s))))
      go (Refused c p) e =
          subst (λ (r : Reading). Bounded (n + 65535) (with_messages t (all_octets (messages_of r)))) (sym e)
          (unfold with_messages in (bounded-more n (n + 65535) t b (omega arith)))
      go (Accepted ps) e =
          let ok : Accepts s = rw e refl in
          let (w, places) = whole s ok in
          subst (λ (ms : List (List ℕ)). Bounded (n + 65535) (with_messages t ms)) (sym (left-octets s w places))
          (bounded-more (n + length (join w.ms)) (n + 65535) _ (bounded-messages n w.q w.v w.ms t w.numbered b)
          (omega (arith, ap length w.joins, accepted-short s ok)))

-- ---- a run
record Run (t : Tally) (fs : List File) : Type 0 where
  agrees : Agrees t (all_messages fs) fs
  bounded : Bounded (65536 * length fs) t

run-limits : (t : Tally) (fs : List File) → Run t fs → length fs < 65536 → in_limits t ≡ true
run-limits t fs r h = bounded-limits t (bounded-more (65536 * length fs) LIMIT t r.bounded (omega arith))

counted-inside : (t : Tally) (f : File) → in_limits t ≡ true → counted_of t f ≡ record { refusal = answer_of f; tally = tallied t f }
unfolding counted_of
counted-inside t f e = rw e

run-file : (t : Tally) (fs : List File) (f : File) → Run t fs → length fs < 65536 → Run (counted_of t f).tally (fs ++ (f ∷ []))
run-file t fs f r h =
    subst (λ (x : Tally). Run x (fs ++ (f ∷ []))) (sym (ap (λ (c : Counted). c.tally) (counted-inside t f (run-limits t fs r h))))
    (record {
      agrees = agrees-file t fs f r.agrees;
      bounded =
          bounded-more (65536 * length fs + 65536) _ _ (bounded-file (65536 * length fs) t f r.bounded) (omega (arith, length-append fs (f ∷ [])));
    })

run-files : (t : Tally) (ks fs : List File) → Run t ks → length ks + length fs ≤ 65536 → Run (run_of t fs) (ks ++ fs)
unfolding run_of
run-files t ks [] r h = subst (λ (l : List File). Run t l) (sym (append-nil ks)) r
run-files t ks (f ∷ fs) r h =
    subst (λ (l : List File). Run (run_of (counted_of t f).tally fs) l) (append_assoc ks (f ∷ []) fs)
    (run-files (counted_of t f).tally (ks ++ (f ∷ [])) fs (run-file t ks f r (omega arith)) (omega (arith, length-append ks (f ∷ []))))

zeros-at : (n j : ℕ) → get_or (replicate n 0) j 0 ≤ 0
zeros-at zero j = omega arith
zeros-at (suc n) zero = omega arith
zeros-at (suc n) (suc j) = zeros-at n j

run-empty : Run empty_tally []
unfolding of_each all_messages typed answered sum_of lists_in
run-empty = record {
  agrees =
      record {
        types = refl;
        answers = refl;
        headers = refl;
        vectors = refl;
        bare = refl;
        offers = none;
        kept = record { octets = length-replicate {A = ℕ} 1024 0; places = length-replicate {A = ℕ} 64 0; few = omega arith };
      };
  bounded =
      record {
        few = omega arith;
        types = λ j. zeros-at 8 j;
        answers = λ j. zeros-at 32 j;
        counts = λ j. zeros-at 64 j;
        others = omega arith;
        headers = omega arith;
        vectors = omega arith;
        bare = omega arith;
      };
} where
  none : offers_in empty_tally.table ≡ offers_of []
  none = unfold ids_at offers_of first_schemes entered_all mentioned listings beyond in refl

run : (fs : List File) → length fs ≤ 65536 → Run (run_of empty_tally fs) fs
run fs h = run-files empty_tally [] fs run-empty (omega arith)

pub tally-of-files : TallyOfFiles
unfolding totals_of
tally-of-files fs h =
    let a = (run fs h).agrees in
    rw (← a.types, ← a.answers, ← a.headers, ← a.vectors, ← a.bare, ← a.offers)

pub never-refused : NeverRefused
never-refused fs f h = counted-inside (run_of empty_tally fs) f (run-limits (run_of empty_tally fs) fs (run fs (omega arith)) h)

pub refused-alone : RefusedAlone
unfolding with_messages
refused-alone t s n place e = rw e

pub missing-alone : MissingAlone
unfolding with_messages
missing-alone t = refl

pub outside-unchanged : OutsideUnchanged
unfolding counted_of
outside-unchanged t f e = rw e
