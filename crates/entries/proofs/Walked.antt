-- The entries of a token, message by message, and as many of them as there is room for. In the words of the code where a function is meant.
-- Assumes nothing.
use Prim.Native.Nat.{ℕ, zero, suc, ◌+◌, ◌*◌, ◌-◌, ◌/◌, ◌<◌, ◌≤◌, ◌^◌, min}
use mathlib.Core.Path.{◌≡◌, refl, sym, ap, subst, ◌∙◌}
use mathlib.Core.Logic.{inl, inr}
use mathlib.Core.List.{List, [], ◌∷◌, ◌++◌, append_assoc, append-nil}
use native.Mathlib.Numerals.{add-one}
use native.Mathlib.Omega.{arith}
use lib.ListN.{length, take, drop, get_or, length-append, length-take, length-drop}
use lib.Seq.{take-suc, get_or-drop, take-nil, drop-nil, length-take-le}
use lib.Dec.{eqb}
use borrow.Author.Tests.{eqb-true, eqb-false}
use Rattle.octets.proofs.Bools.{which}
use Rattle.message.specs.Layout.{head_of, shape_of}
use Rattle.message.specs.Show.{first_of}
use Rattle.token.specs.Token.{Placed, token_of}
use Rattle.token.specs.Split.{Numbered, join, placed_from}
use Rattle.token.specs.Walk.{messages_of, Accepts}
use Rattle.token.proofs.Cuts.{behind, behind-length}
use Rattle.token.proofs.Splits.{accepted-splits}
use Rattle.messages.specs.Messages.{Passed}
use Rattle.messages.proofs.Steps.{left_behind}
use Rattle.token.proofs.Walks.{Left, Turn, turn, turn-fits, turn-less, accepted-short, Walk, walk-begun, walk-ended, walk-passed}
use Rattle.coverage.proofs.Marks.{drop-least, take-least}
use Rattle.put.specs.Put.{Written}
use Rattle.put.proofs.Laws.{put-none, length-put}
use Rattle.table.specs.Table.{numbers, Held}
use Rattle.table.proofs.Numbers.{length-numbers, both-written}
use Rattle.table.proofs.Entries.{message-held, entry-within}
use Rattle.entries.specs.declared.Entry.{Entry}
use Rattle.entries.specs.Entries.{ids_vector, array_vector, entries_in, entries_from, entries_of, entry_octets}
use Rattle.entries.specs.Lookup.{no_entry, count_in, Filled}
use Rattle.entries.specs.Claims.{EntriesFew}
use Rattle.entries.proofs.Bounds.{ids-inside, array-inside}
use Rattle.entries.proofs.Pieces.{count-is, few-fields}

-- ---- lists
drop-both : (a b : List Entry) (k : ℕ) → drop k (a ++ b) ≡ drop k a ++ drop (k - length a) b
drop-both [] b k = let e : k ≡ k - 0 = omega arith in ap (λ (j : ℕ). drop j b) e ∙ ap (λ (l : List Entry). l ++ drop (k - 0) b) (sym (drop-nil k))
drop-both (x ∷ a) b zero = let e : 0 ≡ 0 - length (x ∷ a) = omega arith in ap (λ (j : ℕ). (x ∷ a) ++ drop j b) e
drop-both (x ∷ a) b (suc k) = let e : k - length a ≡ suc k - length (x ∷ a) = omega arith in drop-both a b k ∙ ap (λ (j : ℕ). drop k a ++ drop j b) e

take-both : (a b : List Entry) (k : ℕ) → take k (a ++ b) ≡ take k a ++ take (k - length (take k a)) b
take-both [] b k =
    let none : length {A = Entry} (take k []) ≡ 0 = ap (length {A = Entry}) (take-nil {A = Entry} k) in
    let e : k ≡ k - length {A = Entry} (take k []) = omega arith in
    ap (λ (j : ℕ). take j b) e ∙ ap (λ (l : List Entry). l ++ take (k - length {A = Entry} (take k [])) b) (sym (take-nil k))
take-both (x ∷ a) b zero = let e : 0 ≡ 0 - 0 = omega arith in ap (λ (j : ℕ). take j b) e
take-both (x ∷ a) b (suc k) =
    let e : k - length (take k a) ≡ suc k - suc (length (take k a)) = omega arith in
    ap (λ (l : List Entry). x ∷ l) (take-both a b k ∙ ap (λ (j : ℕ). take k a ++ take j b) e)

-- ---- entries in octets
octets-append : (xs ys : List Entry) → entry_octets (xs ++ ys) ≡ entry_octets xs ++ entry_octets ys
unfolding entry_octets
octets-append [] ys = refl
octets-append (x ∷ xs) ys =
    let six = numbers (x.what ∷ x.message ∷ x.number ∷ x.value ∷ x.place ∷ x.length ∷ []) in
    ap (λ (l : List ℕ). six ++ l) (octets-append xs ys) ∙ sym (append_assoc six (entry_octets xs) (entry_octets ys))

pub octets-length : (es : List Entry) → length (entry_octets es) ≡ 24 * length es
unfolding entry_octets
octets-length [] = refl
octets-length (x ∷ xs) =
    let six = numbers (x.what ∷ x.message ∷ x.number ∷ x.value ∷ x.place ∷ x.length ∷ []) in
    omega (
      arith,
      length-append six (entry_octets xs),
      length-numbers
          (x.what ∷ x.message ∷ x.number ∷ x.value ∷ x.place ∷ x.length ∷ []),
      octets-length xs,
    )

same-both : (a b : ℕ) → a ≤ b → b ≤ a → b ≡ a
same-both a b h g = omega arith

least-gap : (n from begin : ℕ) → begin ≡ min from n → n - begin ≡ n - from
least-gap n from begin e = omega arith

least-swap : (a b : ℕ) → min a b ≡ min b a
least-swap a b = omega arith

short-most : (a b : ℕ) → min a b ≤ b
short-most a b = omega arith

-- ---- the words of `put_message`
pub part-number : (p i : ℕ) (m : List ℕ) (begin k n count room : ℕ) → n ≡ count_in m → count ≡ min (n - begin) room → k < count
    → begin + k < length (entries_in p i m)
part-number p i m begin k n count room n-is count-is' h = omega (arith, count-is p i m)

module _ (p i : ℕ) (m : List ℕ) (d : List ℕ) (at n begin count : ℕ) (n-is : n ≡ count_in m)
    (count-is' : count ≡ min (n - begin) ((length d - at) / 24)) where
  E : List Entry
  E = entries_in p i m

  E-length : length E ≡ n
  unfolding E
  E-length = count-is p i m ∙ sym n-is

  abbrev Part : ℕ → List ℕ → ℕ → Type 0
  Part k e next = Written d at (24 * k) (entry_octets (take k (drop begin (entries_in p i m)))) e next

  pub part_none : Part 0 d at
  unfolding entry_octets
  part_none = let z : at ≡ at + 0 = omega arith in record { size = refl; after = z; holds = sym (put-none d at) }

  module _ (k : ℕ) (e : List ℕ) (next : ℕ) (on : Part k e next) where
    pub part-all : (from : ℕ) → begin ≡ min from n → count ≤ k → k ≤ count → Filled d at (drop from (entries_in p i m)) e next
    unfolding Filled E
    part-all from begin-is h g =
        let rest : drop begin E ≡ drop from E = ap (λ (j : ℕ). drop j E) (begin-is ∙ ap (min from) (sym E-length)) ∙ drop-least E from in
        let left : n - begin ≡ length (drop from E) =
        least-gap n from begin begin-is ∙ ap (λ (j : ℕ). j - from) (sym E-length) ∙ sym (length-drop from E) in
        let k-is : k ≡ min ((length d - at) / 24) (length (drop from E)) =
        same-both count k h g ∙ count-is' ∙ ap (λ (j : ℕ). min j ((length d - at) / 24)) left
        ∙ least-swap (length (drop from E)) ((length d - at) / 24) in
        let shown : take k (drop begin E) ≡ take ((length d - at) / 24) (drop from E) =
        ap (take k) rest ∙ ap (λ (j : ℕ). take j (drop from E)) k-is ∙ take-least (drop from E) ((length d - at) / 24) in
        let few : k ≤ length (drop begin E) =
        subst (λ (l : List Entry). k ≤ length l) (sym rest)
        (subst (λ (j : ℕ). j ≤ length (drop from E)) (sym k-is) (short-most ((length d - at) / 24) (length (drop from E)))) in
        let long : k ≡ length (take k (drop begin E)) = sym (length-take-le k (drop begin E) few) in
        subst (λ (l : List Entry). Written d at (24 * length l) (entry_octets l) e next) shown
        (subst (λ (j : ℕ). Written d at (24 * j) (entry_octets (take k (drop begin E))) e next) long on)

    module _ (more : k < count) where
      pub part-place : begin + k < n
      part-place = omega arith

      pub part_room : next + 24 ≤ length e
      part_room =
          let l : length e ≡ length d =
          ap length on.holds ∙ length-put d at (entry_octets (take k (drop begin (entries_in p i m)))) (omega (arith, on.size)) in
          omega (arith, on.after)

      pub part-next : (x : Entry) → x ≡ get_or (entries_in p i m) (begin + k) no_entry → (e' : List ℕ) (next' : ℕ)
          → Written e next 24 (entry_octets (x ∷ [])) e' next' → Part (k + 1) e' next'
      unfolding E
      part-next x x-is e' next' w =
          let size : 24 * k + 24 ≡ 24 * (k + 1) = omega arith in
          let few : k < length (drop begin E) = omega (arith, length-drop begin E, E-length) in
          let one : take (k + 1) (drop begin E) ≡ take k (drop begin E) ++ (x ∷ []) =
          (rw add-one (take-suc (drop begin E) k no_entry few))
          ∙ ap (λ (y : Entry). take k (drop begin E) ++ (y ∷ [])) (get_or-drop begin E k no_entry ∙ sym x-is) in
          let is : entry_octets (take k (drop begin E)) ++ entry_octets (x ∷ []) ≡ entry_octets (take (k + 1) (drop begin E)) =
          sym (ap entry_octets one ∙ octets-append (take k (drop begin E)) (x ∷ [])) in
          subst (λ (l : List ℕ). Written d at (24 * (k + 1)) l e' next') is
          (subst (λ (j : ℕ). Written d at j (entry_octets (take k (drop begin E)) ++ entry_octets (x ∷ [])) e' next') size
          (both-written (omega arith) on w))

pub ruleset parts = (part_none, part-all, part-place, part-number, part_room, part-next)

-- ---- entries that are put, and more behind them
fill_more : (d : List ℕ) (xs ys : List Entry) (e : List ℕ) (next : ℕ) (e' : List ℕ) (next' : ℕ) → Filled d 0 xs e next → Filled e next ys e' next'
    → Filled d 0 (xs ++ ys) e' next'
unfolding Filled
fill_more d xs ys e next e' next' a b =
    let R = (length d - 0) / 24 in
    let A = take R xs in
    let B = take ((length e - next) / 24) ys in
    let l : length e ≡ length d = ap length a.holds ∙ length-put d 0 (entry_octets A) (omega (arith, octets-length A, length-take R xs)) in
    let r : (length e - next) / 24 ≡ R - length A = omega (arith, a.after, length-take R xs) in
    let is : take R (xs ++ ys) ≡ A ++ B = take-both xs ys R ∙ ap (λ (j : ℕ). A ++ take j ys) (sym r) in
    let size : 24 * length A + 24 * length B ≡ 24 * length (A ++ B) = omega (arith, length-append A B) in
    subst (λ (l : List Entry). Written d 0 (24 * length l) (entry_octets l) e' next') (sym is)
    (subst (λ (j : ℕ). Written d 0 j (entry_octets (A ++ B)) e' next') size
    (subst (λ (l : List ℕ). Written d 0 (24 * length A + 24 * length B) l e' next') (sym (octets-append A B))
    (both-written (omega (arith, length-take R xs, length-take ((length e - next) / 24) ys)) a b)))

-- ---- how many entries a message has
module _ (p : ℕ) (m : List ℕ) (held : Held p m) where
  few-ids : 16 * (ids_vector (shape_of (head_of m).kind) m).count ≤ length m
  few-ids = elim (which (eqb (ids_vector (shape_of (head_of m).kind) m).count 0)) [
    | inl e ↦ let z : (ids_vector (shape_of (head_of m).kind) m).count ≡ 0 = eqb-true _ _ e in omega arith
    | inr e ↦ let z : ((ids_vector (shape_of (head_of m).kind) m).count ≡ 0) → ⊥ =
        eqb-false _ _ e in omega (arith, ids-inside p m held (shape_of (head_of m).kind) refl 0 (omega arith))
  ]

  few-elements : 12 * (array_vector (shape_of (head_of m).kind) m).count ≤ length m
  few-elements = elim (which (eqb (array_vector (shape_of (head_of m).kind) m).count 0)) [
    | inl e ↦ let z : (array_vector (shape_of (head_of m).kind) m).count ≡ 0 = eqb-true _ _ e in omega arith
    | inr e ↦ let z : ((array_vector (shape_of (head_of m).kind) m).count ≡ 0) → ⊥ =
        eqb-false _ _ e in omega (arith, array-inside p m held (shape_of (head_of m).kind) refl 0 (omega arith))
  ]

  few-entries : count_in m ≤ length m
  unfolding count_in
  few-entries = omega (arith, few-ids, few-elements, few-fields (shape_of (head_of m).kind), entry-within p m held)

-- ---- on the way through a token: `done` are the entries of the i messages passed
pub record Walked (T : List Entry) (rest : List ℕ) (place i : ℕ) (done : List Entry) : Type 0 where
  pub walk : Walk T (λ ps. done ++ entries_from i ps) rest place
  pub ends : place + length rest ≤ 65535
  pub few : length done ≤ place
  pub early : i ≤ place

walked-begin : (s : List ℕ) → Accepts s → Walked (entries_of (messages_of (token_of s))) s 0 0 []
walked-begin s a =
    record { walk = walk-begun entries_of s a; ends = omega (arith, accepted-short s a); few = omega arith; early = omega arith }

module _ (T : List Entry) (rest : List ℕ) (place i : ℕ) (done : List Entry) (on : Walked T rest place i done) where
  walked_end : length rest ≤ 0 → done ≡ T
  unfolding entries_from
  walked_end h = sym (walk-ended T _ rest place on.walk h ∙ append-nil done)

  module _ (more : 0 < length rest) (m : List ℕ) (m-is : m ≡ first_of rest) where
    here : Turn rest on.walk.left m
    here = turn rest on.walk.left more m m-is

    walked-held : (p : ℕ) → p ≤ place → Held p m
    walked-held p h = message-held p _ _ m here.first (let a = on.ends in omega (arith, here.fits))

    walked_on : Walked T (behind rest (length m)) (place + length m) (i + 1) (done ++ entries_in place i m)
    walked_on = record {
      walk = walk-passed T _ rest place on.walk more m m-is (λ ps. done ++ entries_in place i m ++ entries_from (i + 1) ps)
          (λ ps. unfold entries_from in sym (append_assoc done (entries_in place i m) (entries_from (i + 1) ps)));
      ends = let a = on.ends in omega (arith, behind-length rest (length m), here.fits);
      few =
          let a = on.few in
          omega (
            arith,
            length-append done (entries_in place i m),
            count-is place i m,
            few-entries place m
                (walked-held place (omega arith)),
          );
      early = let a = on.early in omega (arith, here.some);
    }

-- ---- the words of `count_entries`
pub record Counted (T : List Entry) (rest : List ℕ) (n : ℕ) : Type 0 where
  pub place : ℕ
  pub i : ℕ
  pub done : List Entry
  pub walked : Walked T rest place i done
  pub n-is : n ≡ length done

pub counted-begin : (s : List ℕ) → Accepts s → Counted (entries_of (messages_of (token_of s))) s 0
counted-begin s a = record { place = 0; i = 0; done = []; walked = walked-begin s a; n-is = refl }

module _ (T : List Entry) (rest : List ℕ) (n : ℕ) (on : Counted T rest n) where
  pub counted-left : Left rest
  counted-left = on.walked.walk.left

  pub counted-end : length rest ≤ 0 → n ≡ length T
  counted-end h = on.n-is ∙ ap length (walked_end T rest on.place on.i on.done on.walked h)

  module _ (more : 0 < length rest) (m : List ℕ) (m-is : m ≡ first_of rest) where
    pub counted-held : Held 0 m
    counted-held = walked-held T rest on.place on.i on.done on.walked more m m-is 0 (omega arith)

    module _ (c : ℕ) (c-is : c ≡ count_in m) where
      pub counted-sum : n + c < 2 ^ 64
      counted-sum = omega (arith, on.n-is, on.walked.few, on.walked.ends, turn-fits rest counted-left more m m-is, few-entries 0 m counted-held)

      pub counted-on : Counted T (behind rest (length m)) (n + c)
      counted-on = record {
        place = on.place + length m;
        i = on.i + 1;
        done = on.done ++ entries_in on.place on.i m;
        walked = walked_on T rest on.place on.i on.done on.walked more m m-is;
        n-is = omega (arith, on.n-is, length-append on.done (entries_in on.place on.i m), count-is on.place on.i m);
      }

pub ruleset counting = (counted-begin, counted-end, counted-left, turn-fits, turn-less, counted-held, counted-sum, counted-on)

-- ---- the words of `put_entries`
pub record Shown (T : List Entry) (d : List ℕ) (from : ℕ) (rest : List ℕ) (place i skip : ℕ) (e : List ℕ) (next : ℕ) : Type 0 where
  pub done : List Entry
  pub walked : Walked T rest place i done
  pub skipped : skip ≡ from - length done
  pub written : Filled d 0 (drop from done) e next

pub shown-begin : (s : List ℕ) → Accepts s → (d : List ℕ) (from : ℕ) → Shown (entries_of (messages_of (token_of s))) d from s 0 0 from d 0
unfolding Filled entry_octets
shown-begin s a d from =
    let none : take ((length d - 0) / 24) (drop from []) ≡ [] = ap (take ((length d - 0) / 24)) (drop-nil from) ∙ take-nil ((length d - 0) / 24) in
    let z : from ≡ from - 0 = omega arith in
    record {
      done = [];
      walked = walked-begin s a;
      skipped = z;
      written =
          subst (λ (l : List Entry). Written d 0 (24 * length l) (entry_octets l) d 0) (sym none)
          (record { size = refl; after = refl; holds = sym (put-none d 0) });
    }

module _ (T : List Entry) (d : List ℕ) (from : ℕ) (rest : List ℕ) (place i skip : ℕ) (e : List ℕ) (next : ℕ)
    (on : Shown T d from rest place i skip e next) where
  pub shown-left : Left rest
  shown-left = on.walked.walk.left

  pub shown-count : i + length rest < 2 ^ 64
  shown-count = omega (arith, on.walked.early, on.walked.ends)

  pub shown-end : length rest ≤ 0 → Filled d 0 (drop from T) e next
  shown-end h = subst (λ (l : List Entry). Filled d 0 (drop from l) e next) (walked_end T rest place i on.done on.walked h) on.written

  module _ (more : 0 < length rest) (m : List ℕ) (m-is : m ≡ first_of rest) where
    pub shown-held : Held place m
    shown-held = walked-held T rest place i on.done on.walked more m m-is place (omega arith)

    pub shown-message : Held 0 m
    shown-message = walked-held T rest place i on.done on.walked more m m-is 0 (omega arith)

    pub shown-small : length m < 2 ^ 32
    shown-small = let a = shown-held.ends in omega arith

    pub shown-place : place + length m < 2 ^ 64
    shown-place = let a = shown-held.ends in omega arith

    pub shown-next : i + 1 < 2 ^ 32
    shown-next = let a = shown-held.ends in omega (arith, on.walked.early)

    pub shown-room : next ≤ length e
    unfolding Filled
    shown-room =
        let A = take ((length d - 0) / 24) (drop from on.done) in
        let w : Written d 0 (24 * length A) (entry_octets A) e next = on.written in
        let l : length e ≡ length d =
        ap length w.holds ∙ length-put d 0 (entry_octets A)
        (omega (arith, octets-length A, length-take ((length d - 0) / 24) (drop from on.done))) in
        omega (arith, w.after, length-take ((length d - 0) / 24) (drop from on.done))

    shown_next : (e' : List ℕ) (next' skip' : ℕ) → skip' ≡ skip - count_in m → Filled e next (drop skip (entries_in place i m)) e' next'
        → Shown T d from (behind rest (length m)) (place + length m) (i + 1) skip' e' next'
    shown_next e' next' skip' skip_is w =
        let both : drop from on.done ++ drop skip (entries_in place i m) ≡ drop from (on.done ++ entries_in place i m) =
        ap (λ (j : ℕ). drop from on.done ++ drop j (entries_in place i m)) on.skipped ∙ sym (drop-both on.done (entries_in place i m) from) in
        record {
          done = on.done ++ entries_in place i m;
          walked = walked_on T rest place i on.done on.walked more m m-is;
          skipped = let s = on.skipped in omega (arith, length-append on.done (entries_in place i m), count-is place i m);
          written =
              subst (λ (l : List Entry). Filled d 0 l e' next') both
              (fill_more d (drop from on.done) (drop skip (entries_in place i m)) e next e' next' on.written w);
        }

    -- past the message, by the step's own words
    pub shown-on : (rest' : List ℕ) (at place' k i' : ℕ) → Passed rest place at m rest' place' → k ≡ i → i' ≡ i + 1 → (e' : List ℕ) (next' skip' c : ℕ)
        → c ≡ count_in m → skip' ≡ skip - c → Filled e next (drop skip (entries_in at k m)) e' next'
        → Shown T d from rest' place' i' skip' e' next'
    shown-on rest' at place' k i' p k-is i-is e' next' skip' c c-is skip_is w =
        rw (left_behind p) (rw p.next (rw i-is
        (shown_next e' next' skip' (omega (arith, skip_is, c-is))
        (subst (λ (a : ℕ). Filled e next (drop skip (entries_in a i m)) e' next') p.stands
        (subst (λ (j : ℕ). Filled e next (drop skip (entries_in at j m)) e' next') k-is w)))))

pub ruleset shows = (
  shown-begin,
  shown-count,
  shown-end,
  shown-left,
  turn-fits,
  turn-less,
  shown-held,
  shown-message,
  shown-small,
  shown-place,
  shown-next,
  shown-room,
  shown-on,
)

-- ---- an accepted token has no more entries than octets
few-from : (ms : List (List ℕ)) (place i q : ℕ) (v : List ℕ) → Numbered q v ms → place + length (join ms) ≤ 65535
    → length (entries_from i (placed_from place ms)) ≤ length (join ms)
unfolding entries_from
few-from [] place i q v e h = omega arith
few-from (m ∷ ms) place i q v e h =
    let held : Held place m = message-held place q v m e.0 (omega (arith, length-append m (join ms))) in
    omega (
      arith,
      length-append (entries_in place i m) (entries_from (i + 1) (placed_from (place + length m) ms)),
      count-is place i m,
      few-entries place m held,
      length-append m (join ms),
      few-from ms (place + length m) (i + 1) (q + 1) v e.1 (omega (arith, length-append m (join ms))),
    )

pub entries-few : EntriesFew
entries-few s ps e =
    let (ms, (split, places)) = accepted-splits s ps e in
    let same : length (entries_of (placed_from 0 ms)) ≡ length (entries_of ps) = ap (λ (l : List Placed). length (entries_of l)) places in
    omega (
      arith,
      same,
      ap length split.joins,
      few-from ms 0 0 (head_of s).sequence (head_of s).conversation split.numbered
          (omega (arith, split.short, ap length split.joins)),
    )
