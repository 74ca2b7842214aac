-- The functions in the words of the code.
-- Assumes nothing.
use Prim.Native.Nat.{ℕ, ◌+◌, ◌-◌, ◌≤◌, ◌<◌, ◌^◌}
use mathlib.Core.Path.{◌≡◌, refl, sym, ap, subst, ◌∙◌}
use mathlib.Core.Bool.{Bool, true, false, ◌&&◌}
use mathlib.Core.List.{List, [], ◌∷◌}
use native.Mathlib.Omega.{arith}
use lib.ListN.{length, get_or}
use lib.Seq.{set_out}
use lib.Dec.{leb}
use borrow.Author.Tests.{le-leb, lt-leb}
use Rattle.octets.specs.Octets.{le}
use Rattle.vector.specs.Vector.{shown}
use Rattle.message.specs.Layout.{head_of, scheme_vector}
use Rattle.message.specs.Show.{ids_of, schemes_in, first_of}
use Rattle.std.proofs.Common.{Result, Ok, Err}
use Rattle.refusal.specs.Refusals.{number_of}
use Rattle.token.specs.declared.Refused.{Refused}
use Rattle.std.specs.List.{list_all}
use Rattle.token.specs.Token.{Reading, token_of, outcome_of, told}
use Rattle.token.specs.Split.{placed_from}
use Rattle.token.specs.Walk.{messages_of, Accepts}
use Rattle.token.proofs.Cuts.{behind, behind-length}
use Rattle.token.proofs.Walks.{Left, Turn, turn, accepted-short, Walk, walk-begun, walk-ended, walk-passed, answer-accepts, answer-refuses}
use Rattle.coverage.specs.declared.Octets.{Octets}
use Rattle.coverage.specs.Coverage.{octets_in}
use Rattle.offers.specs.declared.Table.{Table}
use Rattle.offers.specs.Table.{pick_table, offered_in, Counting}
use Rattle.tallying.specs.declared.Tally.{Tally}
use Rattle.tallying.specs.declared.Counted.{Counted}
use Rattle.tallying.specs.Files.{Opened, Missing, File, all_octets, number_of as F·number_of, answer_of}
use Rattle.tallying.specs.Tally.{one_more, with_message, with_messages, with_answer, tallied, LIMIT, all_within, in_limits, counted_of}
use Rattle.tallying.specs.Counting.{Small, Bounded, Ready, Start}
use Rattle.tallying.proofs.Bounds.{bounded-message, bounded-more, limits-bounded}

-- ---- `all_within`
pub within_all : (l : List ℕ) → list_all (λ n. leb n LIMIT) l ≡ all_within l
unfolding all_within
within_all [] = refl
within_all (n ∷ ns) = ap (λ (b : Bool). leb n LIMIT && b) (within_all ns)

-- ---- `in_limits`
pub and_no : (a b : Bool) → a ≡ false → false ≡ (a && b)
and_no a b e = rw e

pub and_yes : (a b x : Bool) → a ≡ true → x ≡ b → x ≡ (a && b)
and_yes a b x e f = rw (e, f)

pub is_true : (a b : Bool) → b ≡ a → b ≡ true → a ≡ true
is_true a b e f = sym e ∙ f

pub is_false : (a b : Bool) → b ≡ a → b ≡ false → a ≡ false
is_false a b e f = sym e ∙ f

pub ruleset limits = (and_no, and_yes, is_true, is_false, lt-leb, le-leb)

-- ---- `one_more_lem`
pub more-fits : (a : List ℕ) (k : ℕ) → Small a → get_or a k 0 + 1 < 2 ^ 64
more-fits a k h = omega (arith, h k)

pub more-out : (a : List ℕ) (k : ℕ) → length a ≤ k → a ≡ one_more a k
more-out a k h = sym (set_out a k _ h)

-- ---- `with_offer`
module _ (t : Table) (kind : ℕ) (m : List ℕ) where
  pub offer-none : 1 < kind → t ≡ pick_table (leb kind 1) (offered_in t (schemes_in m)) t
  offer-none h = rw (lt-leb _ _ h)

  pub offer-some : kind ≤ 1 → (l : List ℕ) → l ≡ shown 96 m (scheme_vector m) → (r : Table) → r ≡ offered_in t (ids_of l)
      → r ≡ pick_table (leb kind 1) (offered_in t (schemes_in m)) t
  unfolding schemes_in
  offer-some h l l-is r r-is = rw (le-leb _ _ h) (r-is ∙ ap (λ (a : List ℕ). offered_in t (ids_of a)) l-is)

pub ruleset tables = (offer-none, offer-some)

-- ---- `with_message`
module _ (t : Tally) (m : List ℕ) (room : ℕ) (r : Ready t m room) where
  pub ready-types : Small t.types
  ready-types j = omega (arith, r.bounded.types j)

  pub ready-table : Counting t.table
  ready-table = record { few = r.bounded.few; small = λ j. omega (arith, r.bounded.counts j); rest = omega (arith, r.bounded.others) }

  pub ready-headers : (x : ℕ) → x < 2 ^ 32 → t.headers + x < 2 ^ 64
  ready-headers x h = omega (arith, r.bounded.headers)

  pub ready-vectors : (x : ℕ) → x < 2 ^ 32 → t.vectors + x < 2 ^ 64
  ready-vectors x h = omega (arith, r.bounded.vectors)

  pub ready-bare : (x : ℕ) → x < 2 ^ 32 → t.bare + x < 2 ^ 64
  ready-bare x h = omega (arith, r.bounded.bare)

module _ (t : Tally) (m : List ℕ) (kind : ℕ) (kind-is : kind ≡ le 4 m 8) where
  pub message-is : (o : Octets) → o ≡ octets_in m → (types : List ℕ) → types ≡ one_more t.types kind
      → (table : Table) → table ≡ pick_table (leb kind 1) (offered_in t.table (schemes_in m)) t.table
      → ◌≡◌ {A = Tally}
      (record {
        types = types;
        answers = t.answers;
        table = table;
        headers = t.headers + o.headers;
        vectors = t.vectors + o.vectors;
        bare = t.bare + o.bare;
      }) (with_message t m)
  unfolding with_message head_of
  message-is o o_is types types-is table table_is = rw (types-is, table_is, o_is, kind-is)

pub ruleset messages = (ready-types, ready-table, ready-headers, ready-vectors, ready-bare, message-is)

-- ---- `with_messages`
octets-placed : (p : ℕ) (ms : List (List ℕ)) → all_octets (placed_from p ms) ≡ ms
octets-placed p [] = refl
octets-placed p (m ∷ ms) = ap (λ (ks : List (List ℕ)). m ∷ ks) (octets-placed (p + length m) ms)

-- the messages of an accepted file, one behind the other
pub left-octets : (s : List ℕ) (w : Left s) → placed_from 0 w.ms ≡ messages_of (token_of s) → all_octets (messages_of (token_of s)) ≡ w.ms
left-octets s w e = ap all_octets (sym e) ∙ octets-placed 0 w.ms

-- on the way through a file: x is what the walk comes to, `rest` what is left of the file s
pub record Going-on (x : Tally) (s rest : List ℕ) (t : Tally) : Type 0 where
  pub place : ℕ
  pub walked : Walk x (λ ps. with_messages t (all_octets ps)) rest place
  pub short : length s ≤ 65535
  pub within : length rest ≤ length s
  pub bounded : Bounded (LIMIT + (length s - length rest)) t

pub begin : (t : Tally) (s : List ℕ) (room : ℕ) → Start t s room → Going-on (with_messages t (all_octets (messages_of (token_of s)))) s s t
begin t s room k =
    record {
      place = 0;
      walked = walk-begun (λ ps. with_messages t (all_octets ps)) s k.accepted;
      short = accepted-short s k.accepted;
      within = omega arith;
      bounded = bounded-more LIMIT (LIMIT + (length s - length s)) t k.bounded (omega arith);
    }

module _ (x : Tally) (s rest : List ℕ) (t : Tally) (on : Going-on x s rest t) where
  pub left : Left rest
  left = on.walked.left

  pub at-end : length rest ≤ 0 → t ≡ x
  unfolding with_messages
  at-end h = sym (walk-ended x _ rest on.place on.walked h)

  module _ (more : 0 < length rest) (m : List ℕ) (m-is : m ≡ first_of rest) where
    here : Turn rest left m
    here = turn rest left more m m-is

    pub walk-ready : (t0 : Tally) (room room0 : ℕ) → Start t0 s room0 → room ≡ room0 → Ready t m room
    walk-ready t0 room room0 k e =
        record {
          bounded = bounded-more (LIMIT + (length s - length rest)) 4295032830 t on.bounded (omega (arith, on.short));
          long = omega (arith, here.some);
          short = omega (arith, here.fits, on.within, on.short);
          within = omega (arith, here.fits, on.within, on.short, k.within);
        }

    pub walk-on : (u : Tally) → u ≡ with_message t m → Going-on x s (behind rest (length m)) u
    walk-on u u-is =
        record {
          place = on.place + length m;
          walked = walk-passed x _ rest on.place on.walked more m m-is (λ ps. with_messages u (all_octets ps))
              (λ ps. unfold with_messages in ap (λ (v : Tally). with_messages v (all_octets ps)) (sym u-is));
          short = on.short;
          within = omega (arith, behind-length rest (length m), on.within);
          bounded = subst (Bounded (LIMIT + (length s - length (behind rest (length m))))) (sym u-is)
              (bounded-more (LIMIT + (length s - length rest) + length m) _ (with_message t m)
              (bounded-message (LIMIT + (length s - length rest)) t m on.bounded (omega (arith, here.some)))
              (omega (arith, behind-length rest (length m), on.within, here.fits)));
        }

-- ---- `with_file`: a map that has room for the file
module _ (t : Tally) (s : List ℕ) (k : Start t s (length s)) where
  pub start-in : (room : ℕ) → length s ≤ room → Start t s room
  start-in room h = record { bounded = k.bounded; accepted = k.accepted; within = h }

  pub start-long : (room : ℕ) → 65535 ≤ room → Start t s room
  start-long room h = start-in room (omega (arith, accepted-short s k.accepted))

pub ruleset walks = (begin, at-end, left, walk-ready, walk-on)

-- ---- `with_answer`
pub answer-is : (t : Tally) (n : ℕ) (answers : List ℕ) → answers ≡ one_more t.answers n
    → ◌≡◌ {A = Tally} (record { types = t.types; answers = answers; table = t.table; headers = t.headers; vectors = t.vectors; bare = t.bare })
    (with_answer t n)
unfolding with_answer
answer-is t n answers e = rw e

-- ---- `count_missing` and `tallied`
answers_stay : (t : Tally) (ms : List (List ℕ)) → (with_messages t ms).answers ≡ t.answers
unfolding with_messages with_message
answers_stay t [] = refl
answers_stay t (m ∷ ms) = answers_stay (with_message t m) ms

module _ (t : Tally) (b : Bool) (b-is : b ≡ in_limits t) where
  pub outside : (f : File) → b ≡ false → (n : ℕ) → n ≡ 18 → ◌≡◌ {A = Counted} (record { refusal = n; tally = t }) (counted_of t f)
  unfolding counted_of
  outside f e n n-is = rw (n-is, sym b-is ∙ e)

  module _ (e : b ≡ true) where
    inside : Bounded LIMIT t
    inside = limits-bounded t (sym b-is ∙ e)

    pub small-answers : Small t.answers
    small-answers j = omega (arith, inside.answers j)

    counted-as : (f : File) (x : Tally) → x ≡ tallied t f → ◌≡◌ {A = Counted} (record { refusal = answer_of f; tally = x }) (counted_of t f)
    unfolding counted_of
    counted-as f x x-is = rw (sym b-is ∙ e, x-is)

    pub missing-counted : (n : ℕ) → n ≡ 27 → (x : Tally) → x ≡ with_answer t n → ◌≡◌ {A = Counted} (record { refusal = n; tally = x }) (counted_of t Missing)
    missing-counted n n-is x x-is =
        rw n-is (counted-as Missing x (x-is ∙ ap (with_answer t) n-is ∙ ap (λ (y : Tally). with_answer y 27) (unfold with_messages in refl)))

    module _ (s : List ℕ) (r : Result ℕ Refused) (r-is : told r ≡ outcome_of (token_of s)) where
      module _ (n : ℕ) (here : r ≡ Ok n) where
        accepted : Accepts s
        accepted = answer-accepts s r r-is n here

        pub start-here : Start t s (length s)
        start-here = record { bounded = inside; accepted = accepted; within = omega arith }

        module _ (c : Tally) (c-is : c ≡ with_messages t (all_octets (messages_of (token_of s)))) where
          pub small-counted : Small c.answers
          small-counted j =
              omega (
                arith,
                inside.answers j,
                ap (λ (l : List ℕ). get_or l j 0)
                    (ap (λ (y : Tally). y.answers) c-is ∙ answers_stay t (all_octets (messages_of (token_of s)))),
              )

          pub file-counted : (x : Tally) → x ≡ with_answer c 0 → ◌≡◌ {A = Counted} (record { refusal = 0; tally = x }) (counted_of t (Opened s))
          file-counted x x-is =
              let z : 0 ≡ answer_of (Opened s) = sym (ap F·number_of accepted) in
              ap (λ (k : ℕ). record { refusal = k; tally = x }) z
              ∙ counted-as (Opened s) x
              (x-is ∙ ap (λ (y : Tally). with_answer y 0) c-is ∙ ap (with_answer (with_messages t (all_octets (messages_of (token_of s))))) z)

      pub file-refused : (f : Refused) → r ≡ Err f → (n : ℕ) → n ≡ number_of f.refusal → (x : Tally) → x ≡ with_answer t n
          → ◌≡◌ {A = Counted} (record { refusal = n; tally = x }) (counted_of t (Opened s))
      file-refused f here n n-is x x-is =
          let no = answer-refuses s r r-is f here in
          let z : n ≡ answer_of (Opened s) = n-is ∙ sym (ap F·number_of no) in
          let m : with_messages t (all_octets (messages_of (token_of s))) ≡ t =
          ap (λ (q : Reading). with_messages t (all_octets (messages_of q))) no ∙ (unfold with_messages in refl) in
          ap (λ (k : ℕ). record { refusal = k; tally = x }) z
          ∙ counted-as (Opened s) x
          (x-is ∙ ap (λ (y : Tally). with_answer y n) (sym m) ∙ ap (with_answer (with_messages t (all_octets (messages_of (token_of s))))) z)

pub ruleset counteds = (outside, small-answers, missing-counted, start-here, small-counted, file-counted, file-refused)
