-- The table of a token, message by message: each entry is no longer than its message. In the words of the code where a function is meant.
-- Assumes nothing.
use Prim.Native.Nat.{ℕ, ◌+◌, ◌*◌, ◌<◌, ◌≤◌, ◌^◌}
use mathlib.Core.Path.{◌≡◌, refl, sym, ap, subst, ◌∙◌}
use mathlib.Core.Logic.{inl, inr}
use mathlib.Core.List.{List, [], ◌∷◌, ◌++◌, append_assoc, append-nil, Memᴰ}
use native.Mathlib.Omega.{arith}
use lib.ListN.{length, drop, length-append, length-take, length-drop}
use lib.Dec.{leb, eqb}
use borrow.Author.Tests.{le-leb, leb-true, leb-false, eqb-true, eqb-false}
use Rattle.octets.proofs.Bools.{which}
use Rattle.vector.specs.declared.Vector.{Vector}
use Rattle.vector.specs.Vector.{extent, part}
use Rattle.message.specs.Layout.{Shape, head_of, shape_of, header_of, extension_vector, alert_vector, content_of, content_in, vectors_of}
use Rattle.message.specs.Show.{first_of}
use Rattle.message.proofs.Shapes.{shape-nego, shape-alert, header-least}
use Rattle.token.specs.Token.{Placed, token_of}
use Rattle.token.specs.Split.{Message, Numbered, join, placed_from}
use Rattle.token.specs.Walk.{messages_of, Accepts}
use Rattle.token.proofs.Cuts.{behind, behind-length, passes-sized}
use Rattle.token.proofs.Splits.{accepted-splits}
use Rattle.token.proofs.Insides.{message-inside}
use Rattle.token.proofs.Walks.{Left, Turn, turn, turn-fits, turn-less, accepted-short, Walk, walk-begun, walk-ended, walk-passed}
use Rattle.coverage.specs.Coverage.{header_in, vectors_in}
use Rattle.coverage.proofs.Numbered.{count-nego, count-one, count-alert}
use Rattle.put.specs.Put.{Written}
use Rattle.put.proofs.Laws.{put-none, length-put}
use Rattle.table.specs.Table.{placed_at, fields_in, spans_in, entry_of, entries_of, numbers, table_of, TableFits, Held}
use Rattle.table.proofs.Numbers.{numbers-append, length-numbers, length-spans, both-written}

-- ---- a message of an accepted token
pub all-vectors : (m : List ℕ) → header_in m ≤ length m → vectors_in m ≡ vectors_of (content_in m)
unfolding vectors_in
all-vectors m h = rw (le-leb _ _ h) refl

pub message-held : (p q : ℕ) (c m : List ℕ) → Message q c m → p + length m ≤ 65535 → Held p m
message-held p q c m e h =
    let z = passes-sized m q c e.pass in
    let header : header_in m ≤ length m = (let a = z.header in let b = z.holds in omega (arith, e.exact)) in
    record {
      ends = h;
      header = header;
      lies = λ v i some. message-inside q c m e v (subst (Memᴰ v) (all-vectors m header) i) some;
    }

-- ---- the size of an entry
pub entry_length : (p : ℕ) (m : List ℕ) → length (numbers (entry_of (placed_at p m))) ≡ 24 + 8 * length (vectors_in m)
entry_length p m = omega (arith, length-numbers (entry_of (placed_at p m)), length-spans p (vectors_in m))

-- an array that lies behind its header leaves room for the header
part-few : (header : ℕ) (m : List ℕ) (v : Vector) → header ≤ length m → ((extent v ≡ 0 → ⊥) → header ≤ v.offset.0)
    → length (part m v) + header ≤ length m
part-few header m v h behind = elim (which (eqb (extent v) 0)) [
  | inl e ↦ let none : extent v ≡ 0 = eqb-true _ _ e in omega (arith, length-take (extent v) (drop v.offset.0 m))
  | inr e ↦ omega (arith, length-take (extent v) (drop v.offset.0 m), length-drop v.offset.0 m, behind (eqb-false _ _ e), h)
]

module _ (p : ℕ) (m : List ℕ) (held : Held p m) where
  kind : ℕ
  kind = (head_of m).kind

  abbrev Within : Type 0
  Within = 24 + 8 * length (vectors_in m) ≤ length m

  within-nego : kind ≤ 1 → Within
  unfolding kind vectors_of content_of
  within-nego h =
      let shape = shape-nego kind h in
      let header : header_in m ≡ 96 = ap header_of shape in
      let member : Memᴰ (extension_vector m) (vectors_in m) =
      subst (λ (l : List Vector). Memᴰ (extension_vector m) l)
      (sym (all-vectors m held.header ∙ ap (λ (x : Shape). vectors_of (content_of x m)) shape))
      (mathlib.Core.List.Memᴰ.tail (mathlib.Core.List.Memᴰ.head refl)) in
      let few =
      part-few 96 m (extension_vector m) (let a = held.header in omega arith)
      (λ some. let a = (held.lies (extension_vector m) member some).behind in omega arith) in
      omega (arith, ap length (all-vectors m held.header), count-nego m kind h (extension_vector m) refl (part m (extension_vector m)) refl, few)

  within-one : 1 < kind → kind ≤ 6 → Within
  unfolding kind
  within-one g h = let a = held.header in omega (arith, ap length (all-vectors m held.header), count-one m kind g h, header-least (shape_of kind))

  within-alert : 1 < kind → 6 < kind → Within
  unfolding kind vectors_of content_of
  within-alert g h =
      let shape = shape-alert kind g (omega arith) (λ e. omega arith) in
      let header : header_in m ≡ 72 = ap header_of shape in
      let member : Memᴰ (alert_vector m) (vectors_in m) =
      subst (λ (l : List Vector). Memᴰ (alert_vector m) l)
      (sym (all-vectors m held.header ∙ ap (λ (x : Shape). vectors_of (content_of x m)) shape)) (mathlib.Core.List.Memᴰ.head refl) in
      let few =
      part-few 72 m (alert_vector m) (let a = held.header in omega arith)
      (λ some. let a = (held.lies (alert_vector m) member some).behind in omega arith) in
      omega (arith, ap length (all-vectors m held.header), count-alert m kind g h (alert_vector m) refl (part m (alert_vector m)) refl, few)

  pub entry-within : 24 + 8 * length (vectors_in m) ≤ length m
  entry-within = elim (which (leb kind 1)) [
    | inl e ↦ within-nego (leb-true _ _ e)
    | inr e ↦ elim (which (leb kind 6)) [
      | inl g ↦ within-one (leb-false _ _ e) (leb-true _ _ g)
      | inr g ↦ within-alert (leb-false _ _ e) (leb-false _ _ g)
    ]
  ]

  pub held-long : 40 ≤ length m
  held-long = let a = held.header in omega (arith, header-least (shape_of (head_of m).kind))

  pub vectors-small : (n : ℕ) → n ≡ length (vectors_in m) → n < 2 ^ 32
  vectors-small n e = let a = held.ends in omega (arith, entry-within)

-- ---- the table of messages
table-first : (m : Placed) (ms : List Placed) → table_of (m ∷ ms) ≡ numbers (entry_of m) ++ table_of ms
unfolding entries_of
table-first m ms = numbers-append (entry_of m) (entries_of ms)

table-within : (ms : List (List ℕ)) (place q : ℕ) (v : List ℕ) → Numbered q v ms → place + length (join ms) ≤ 65535
    → length (table_of (placed_from place ms)) ≤ length (join ms)
table-within [] place q v e h = (unfold entries_of numbers in omega arith)
table-within (m ∷ ms) place q v e h =
    let held : Held place m = message-held place q v m e.0 (omega (arith, length-append m (join ms))) in
    omega (
      arith,
      ap length (table-first (placed_at place m) (placed_from (place + length m) ms)),
      length-append (numbers (entry_of (placed_at place m))) (table_of (placed_from (place + length m) ms)),
      entry_length place m,
      entry-within place m held,
      length-append m (join ms),
      table-within ms (place + length m) (q + 1) v e.1 (omega (arith, length-append m (join ms))),
    )

pub table_fits : TableFits
table_fits s ps e =
    let (ms, (split, places)) = accepted-splits s ps e in
    let same : length (table_of (placed_from 0 ms)) ≡ length (table_of ps) = ap (λ (l : List Placed). length (table_of l)) places in
    omega (
      arith,
      same,
      ap length split.joins,
      table-within ms 0 (head_of s).sequence (head_of s).conversation split.numbered
          (omega (arith, split.short, ap length split.joins)),
    )

-- ---- on the way through a token: `done` is the table of the messages passed
pub record Walked (T : List ℕ) (rest : List ℕ) (place : ℕ) (done : List ℕ) : Type 0 where
  pub walk : Walk T (λ ps. done ++ table_of ps) rest place
  pub ends : place + length rest ≤ 65535

walked-begin : (s : List ℕ) → Accepts s → Walked (table_of (messages_of (token_of s))) s 0 []
walked-begin s a = record { walk = walk-begun table_of s a; ends = omega (arith, accepted-short s a) }

module _ (T rest : List ℕ) (place : ℕ) (done : List ℕ) (on : Walked T rest place done) where
  walked_end : length rest ≤ 0 → done ≡ T
  unfolding entries_of numbers
  walked_end h = sym (walk-ended T _ rest place on.walk h ∙ append-nil done)

  module _ (more : 0 < length rest) (m : List ℕ) (m-is : m ≡ first_of rest) where
    here : Turn rest on.walk.left m
    here = turn rest on.walk.left more m m-is

    walked-held : Held place m
    walked-held = message-held place _ _ m here.first (let a = on.ends in omega (arith, here.fits))

    walked_on : Walked T (behind rest (length m)) (place + length m) (done ++ numbers (entry_of (placed_at place m)))
    walked_on = record {
      walk = walk-passed T _ rest place on.walk more m m-is (λ ps. done ++ numbers (entry_of (placed_at place m)) ++ table_of ps)
          (λ ps. ap (λ (l : List ℕ). done ++ l) (table-first (placed_at place m) ps)
          ∙ sym (append_assoc done (numbers (entry_of (placed_at place m))) (table_of ps)));
      ends = let a = on.ends in omega (arith, behind-length rest (length m), here.fits);
    }

    -- what is passed with this message is no longer than the table
    walked-room : length done + (24 + 8 * length (vectors_in m)) ≤ length T
    walked-room =
        omega (
          arith,
          ap length walked_on.walk.come,
          length-append (done ++ numbers (entry_of (placed_at place m))) (table_of (placed_from (place + length m) walked_on.walk.left.ms)),
          length-append done (numbers (entry_of (placed_at place m))),
          entry_length place m,
        )

-- ---- the words of `table_size`
pub record Sized (T rest : List ℕ) (n : ℕ) : Type 0 where
  pub place : ℕ
  pub done : List ℕ
  pub walked : Walked T rest place done
  pub n-is : n ≡ length done
  pub short : length T ≤ 65535

pub sized-begin : (s : List ℕ) → Accepts s → Sized (table_of (messages_of (token_of s))) s 0
sized-begin s a =
    record {
      place = 0;
      done = [];
      walked = walked-begin s a;
      n-is = refl;
      short = omega (arith, table_fits s (messages_of (token_of s)) a, accepted-short s a);
    }

module _ (T rest : List ℕ) (n : ℕ) (on : Sized T rest n) where
  pub sized-left : Left rest
  sized-left = on.walked.walk.left

  pub sized-end : length rest ≤ 0 → n ≡ length T
  sized-end h = on.n-is ∙ ap length (walked_end T rest on.place on.done on.walked h)

  module _ (more : 0 < length rest) (m : List ℕ) (m-is : m ≡ first_of rest) where
    module _ (c : ℕ) (c-is : c ≡ length (vectors_in m)) where
      room : n + (24 + 8 * c) ≤ 65535
      room = let a = on.short in omega (arith, walked-room T rest on.place on.done on.walked more m m-is, on.n-is)

      pub sized-product : 8 * c < 2 ^ 64
      sized-product = omega (arith, room)

      pub sized-entry : 24 + 8 * c < 2 ^ 64
      sized-entry = omega (arith, room)

      pub sized-sum : n + (24 + 8 * c) < 2 ^ 64
      sized-sum = omega (arith, room)

      pub sized_on : Sized T (behind rest (length m)) (n + (24 + 8 * c))
      sized_on = record {
        place = on.place + length m;
        done = on.done ++ numbers (entry_of (placed_at on.place m));
        walked = walked_on T rest on.place on.done on.walked more m m-is;
        n-is = omega (arith, on.n-is, length-append on.done (numbers (entry_of (placed_at on.place m))), entry_length on.place m);
        short = on.short;
      }

pub ruleset sizes = (sized-begin, sized-end, sized-left, turn-fits, turn-less, sized-product, sized-entry, sized-sum, sized_on)

-- ---- the words of `put_entry` and `put_table`
module _ (p : ℕ) (m : List ℕ) (d : List ℕ) (at : ℕ) (room : at + (24 + 8 * length (vectors_in m)) ≤ length d) where
  pub entry-front : at + 24 ≤ length d
  entry-front = omega (arith, room)

  module _ (n : ℕ) (n-is : n ≡ length (vectors_in m)) (e : List ℕ) (next : ℕ)
      (w : Written d at 24 (numbers (fields_in (placed_at p m) ++ (n ∷ []))) e next) where
    pub entry-rest : next + 8 * length (vectors_in m) ≤ length e
    entry-rest =
        let l : length e ≡ length d =
        ap length w.holds ∙ length-put d at (numbers (fields_in (placed_at p m) ++ (n ∷ []))) (let a = w.size in omega arith) in
        omega (arith, w.after)

    pub entry-written : (e' : List ℕ) (next' : ℕ) → Written e next (8 * length (vectors_in m)) (numbers (spans_in p (vectors_in m))) e' next'
        → Written d at (24 + 8 * length (vectors_in m)) (numbers (entry_of (placed_at p m))) e' next'
    entry-written e' next' x =
        subst (λ (l : List ℕ). Written d at (24 + 8 * length (vectors_in m)) l e' next')
        (sym (numbers-append (fields_in (placed_at p m) ++ (n ∷ [])) (spans_in p (vectors_in m)))
        ∙ ap (λ (k : ℕ). numbers (fields_in (placed_at p m) ++ (k ∷ spans_in p (vectors_in m)))) n-is)
        (both-written room w x)

pub record Stored (T d rest : List ℕ) (place : ℕ) (e : List ℕ) (next : ℕ) : Type 0 where
  pub done : List ℕ
  pub walked : Walked T rest place done
  pub written : Written d 0 (length done) done e next
  pub room : length T ≤ length d

pub stored-begin : (s : List ℕ) → Accepts s → (d : List ℕ) → length (table_of (messages_of (token_of s))) ≤ length d
    → Stored (table_of (messages_of (token_of s))) d s 0 d 0
stored-begin s a d h =
    record { done = []; walked = walked-begin s a; written = record { size = refl; after = refl; holds = sym (put-none d 0) }; room = h }

module _ (T d rest : List ℕ) (place : ℕ) (e : List ℕ) (next : ℕ) (on : Stored T d rest place e next) where
  pub stored-left : Left rest
  stored-left = on.walked.walk.left

  pub stored-end : length rest ≤ 0 → Written d 0 (length T) T e next
  stored-end h = subst (λ (l : List ℕ). Written d 0 (length l) l e next) (walked_end T rest place on.done on.walked h) on.written

  module _ (more : 0 < length rest) (m : List ℕ) (m-is : m ≡ first_of rest) where
    pub stored-held : Held place m
    stored-held = walked-held T rest place on.done on.walked more m m-is

    pub stored-small : length m < 2 ^ 32
    stored-small = let a = stored-held.ends in omega arith

    pub stored-place : place + length m < 2 ^ 64
    stored-place = let a = stored-held.ends in omega arith

    here-room : length on.done + (24 + 8 * length (vectors_in m)) ≤ length d
    here-room = omega (arith, walked-room T rest place on.done on.walked more m m-is, on.room)

    pub stored-room : next + (24 + 8 * length (vectors_in m)) ≤ length e
    stored-room =
        let l : length e ≡ length d = ap length on.written.holds ∙ length-put d 0 on.done (omega (arith, here-room)) in
        omega (arith, on.written.after, here-room)

    pub stored_on : (e' : List ℕ) (next' place' : ℕ) → place' ≡ place + length m
        → Written e next (24 + 8 * length (vectors_in m)) (numbers (entry_of (placed_at place m))) e' next'
        → Stored T d (behind rest (length m)) place' e' next'
    stored_on e' next' place' place_is w =
        let size : length on.done + (24 + 8 * length (vectors_in m)) ≡ length (on.done ++ numbers (entry_of (placed_at place m))) =
        omega (arith, length-append on.done (numbers (entry_of (placed_at place m))), entry_length place m) in
        subst (λ (p : ℕ). Stored T d (behind rest (length m)) p e' next') (sym place_is)
        (record {
          done = on.done ++ numbers (entry_of (placed_at place m));
          walked = walked_on T rest place on.done on.walked more m m-is;
          written =
              subst (λ (n : ℕ). Written d 0 n (on.done ++ numbers (entry_of (placed_at place m))) e' next') size
              (both-written (omega (arith, here-room)) on.written w);
          room = on.room;
        })

pub ruleset entries = (held-long, vectors-small, entry-front, entry-rest, entry-written)

pub ruleset stores = (stored-begin, stored-end, stored-left, turn-fits, turn-less, stored-held, stored-small, stored-place, stored-room, stored_on)
