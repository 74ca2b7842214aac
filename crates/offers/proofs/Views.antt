-- The table as the record keeps it holds the ids that are entered.
-- Assumes nothing.
use Prim.Native.Nat.{ℕ, zero, suc, ◌+◌, ◌*◌, ◌≤◌, ◌<◌}
use mathlib.Core.Path.{◌≡◌, refl, sym, ap, ◌∙◌}
use mathlib.Core.Bool.{Bool, true, false, cond, not, ◌||◌}
use mathlib.Core.Logic.{inl, inr}
use mathlib.Core.List.{List, [], ◌∷◌, ◌++◌, append_assoc}
use native.Mathlib.Nat.{mul_comm}
use native.Mathlib.Numerals.{add-one}
use native.Mathlib.Omega.{arith}
use lib.ListN.{length, get_or, take, drop, set, length-set, get_or-eq_default, length-take, length-drop, take-append-drop}
use lib.Seq.{get_or-set_same, get_or-set_other, take-append-le, drop-append-le, take_at as Front-at, drop_at, length-take-le}
use lib.Dec.{leb, ltb, eqb}
use borrow.Author.Tests.{leb-false, ltb-true, ltb-false, eqb-true, eqb-false}
use Rattle.octets.proofs.Bools.{which}
use Rattle.octets.specs.Octets.{octets}
use Rattle.message.specs.Show.{ids_at}
use Rattle.message.proofs.Ids.{length_ids, id-at}
use Rattle.put.specs.Put.{put}
use Rattle.put.proofs.Laws.{length-put}
use Rattle.schemes.specs.Lists.{Id, mem}
use Rattle.schemes.proofs.Mentions.{ids-snoc}
use Rattle.offers.specs.declared.Table.{Table}
use Rattle.offers.specs.Offers.{Offers, entered, entered_all, all_in, ticked, with_offer}
use Rattle.coverage.specs.Coverage.{one}
use Rattle.offers.specs.Table.{names_in, pick_table, entered_in, entered_all_in, ticked_from, offered_in, Kept, AllIds, TableOffers}
use Rattle.offers.proofs.Entering.{or_no}

-- ids stand in the octets before them alone
ids-front : (j : ℕ) (a b : List ℕ) → length a ≡ j * 16 → ids_at j (a ++ b) ≡ ids_at j a
unfolding ids_at
ids-front zero a b h = refl
ids-front (suc j) a b h =
    let e : 16 ≤ length a = omega arith in
    let l : length (drop 16 a) ≡ j * 16 = simp length-drop (omega arith) in
    rw (take-append-le 16 a b e, drop-append-le 16 a b e, ids-front j (drop 16 a) b l)

module _ (d s : List ℕ) (j : ℕ) (room : 16 * j + 16 ≤ length d) (id : length s ≡ 16) where
  start : length (take (16 * j) d) ≡ 16 * j
  start = length-take-le (16 * j) d (omega arith)

  ids-before : ids_at j (put d (16 * j) s) ≡ ids_at j d
  unfolding put
  ids-before =
      let f : length (take (16 * j) d) ≡ j * 16 = omega (arith, start) in
      ap (ids_at j) (append_assoc (take (16 * j) d) s (drop (16 * j + length s) d))
      ∙ ids-front j (take (16 * j) d) _ f ∙ sym (ids-front j (take (16 * j) d) (drop (16 * j) d) f) ∙ ap (ids_at j) (take-append-drop (16 * j) d)

  id-behind : octets 16 (put d (16 * j) s) (j * 16) ≡ s
  unfolding put
  id-behind =
      rw (
        mul_comm j 16,
        append_assoc (take (16 * j) d) s (drop (16 * j + length s) d),
        drop_at (take (16 * j) d) (s ++ drop (16 * j + length s) d)
            (16 * j) start,
      )
      (Front-at s (drop (16 * j + length s) d) 16 id)

  pub ids_more : ids_at (j + 1) (put d (16 * j) s) ≡ ids_at j d ++ (s ∷ [])
  ids_more = rw (add-one, ids-snoc, ids-before, id-behind)

module _ (t : Table) (s : Id) (k : Kept t) (id : length s ≡ 16) where
  next : Table
  next = record { ids = put t.ids (16 * t.count) s; counts = set t.counts t.count 0; count = t.count + 1; others = t.others }

  pub names-entered : names_in (entered_in t s) ≡ entered (names_in t) s
  unfolding entered_in entered
  names-entered = rw (length_ids t.count t.ids) (go (mem s (names_in t) || leb 64 t.count) refl) where
    go : (b : Bool) → (mem s (names_in t) || leb 64 t.count) ≡ b
        → names_in
        (pick_table b t
        (record { ids = put t.ids (16 * t.count) s; counts = set t.counts t.count 0; count = t.count + 1; others = t.others }))
        ≡ cond b (names_in t) (names_in t ++ (s ∷ []))
    go true e = refl
    go false e =
        let l = leb-false 64 t.count (or_no (mem s (names_in t)) _ e) in let o = k.octets in
        ids_more t.ids s t.count (omega arith) id

  pub kept-entered : Kept (entered_in t s)
  unfolding entered_in
  kept-entered = go (mem s (names_in t) || leb 64 t.count) refl where
    go : (b : Bool) → (mem s (names_in t) || leb 64 t.count) ≡ b
        → Kept (pick_table b t
        (record { ids = put t.ids (16 * t.count) s; counts = set t.counts t.count 0; count = t.count + 1; others = t.others }))
    go true e = k
    go false e =
        let l = leb-false 64 t.count (or_no (mem s (names_in t)) _ e) in let o = k.octets in
        record {
          octets = length-put t.ids (16 * t.count) s (omega arith) ∙ o;
          places = length-set t.counts t.count 0 ∙ k.places;
          few = omega arith;
        }

pub names-all : (t : Table) (ss : List Id) → Kept t → AllIds ss → names_in (entered_all_in t ss) ≡ entered_all (names_in t) ss
unfolding entered_all_in entered_all
names-all t [] k a = refl
names-all t (s ∷ ss) k a =
    names-all (entered_in t s) ss (kept-entered t s k a.0) a.1 ∙ ap (λ (l : List Id). entered_all l ss) (names-entered t s k a.0)

pub kept-all : (t : Table) (ss : List Id) → Kept t → AllIds ss → Kept (entered_all_in t ss)
unfolding entered_all_in
kept-all t [] k a = k
kept-all t (s ∷ ss) k a = kept-all (entered_in t s) ss (kept-entered t s k a.0) a.1

-- ---- the counts, place by place
same_lists : (xs ys : List ℕ) → length xs ≡ length ys → ((j : ℕ) → j < length xs → get_or xs j 0 ≡ get_or ys j 0) → xs ≡ ys
same_lists [] [] l h = refl
same_lists [] (y ∷ ys) l h = absurd (omega arith)
same_lists (x ∷ xs) [] l h = absurd (omega arith)
same_lists (x ∷ xs) (y ∷ ys) l h =
    let e : x ≡ y = h 0 (omega arith) in
    let r : xs ≡ ys = same_lists xs ys (omega arith) (λ j k. h (suc j) (omega arith)) in
    rw (e, r)

take_at : (n : ℕ) (xs : List ℕ) (j : ℕ) → j < n → get_or (take n xs) j 0 ≡ get_or xs j 0
take_at zero xs j h = absurd (omega arith)
take_at (suc n) [] j h = refl
take_at (suc n) (x ∷ xs) zero h = refl
take_at (suc n) (x ∷ xs) (suc j) h = take_at n xs j (omega arith)

take_beyond : (n : ℕ) (xs : List ℕ) (j : ℕ) → n ≤ j → get_or (take n xs) j 0 ≡ 0
take_beyond n xs j h = get_or-eq_default (take n xs) 0 {n = j} (omega (arith, length-take n xs))

-- a scheme that is entered starts from nothing
counts-entered : (t : Table) (s : Id) → Kept t → (j : ℕ)
    → get_or (take (entered_in t s).count (entered_in t s).counts) j 0 ≡ get_or (take t.count t.counts) j 0
unfolding entered_in
counts-entered t s k j = go (mem s (names_in t) || leb 64 t.count) refl where
  new : t.count < 64 → get_or (take (t.count + 1) (set t.counts t.count 0)) j 0 ≡ get_or (take t.count t.counts) j 0
  new room = elim (which (eqb j t.count)) [
    | inl e ↦ let f = eqb-true j t.count e in let p = k.places in
        take_at (t.count + 1) (set t.counts t.count 0) j (omega arith)
        ∙ ap (λ (i : ℕ). get_or (set t.counts t.count 0) i 0) f ∙ get_or-set_same t.counts t.count 0 0 (omega arith)
        ∙ sym (take_beyond t.count t.counts j (omega arith))
    | inr e ↦ let f = eqb-false j t.count e in elim (which (ltb j t.count)) [
      | inl g ↦ let h = ltb-true j t.count g in
          take_at (t.count + 1) (set t.counts t.count 0) j (omega arith) ∙ get_or-set_other t.counts t.count j 0 0 f
          ∙ sym (take_at t.count t.counts j h)
      | inr g ↦ let h = ltb-false j t.count g in
          take_beyond (t.count + 1) (set t.counts t.count 0) j (above h f) ∙ sym (take_beyond t.count t.counts j h)
    ]
  ] where
    above : t.count ≤ j → (j ≡ t.count → ⊥) → t.count + 1 ≤ j
    above h f = omega arith

  go : (b : Bool) → (mem s (names_in t) || leb 64 t.count) ≡ b
      → (let r = pick_table b t
      (record { ids = put t.ids (16 * t.count) s; counts = set t.counts t.count 0; count = t.count + 1; others = t.others }) in
      get_or (take r.count r.counts) j 0 ≡ get_or (take t.count t.counts) j 0)
  go true e = refl
  go false e = new (leb-false 64 t.count (or_no (mem s (names_in t)) _ e))

counts_all : (t : Table) (ss : List Id) → Kept t → AllIds ss → (j : ℕ)
    → get_or (take (entered_all_in t ss).count (entered_all_in t ss).counts) j 0 ≡ get_or (take t.count t.counts) j 0
unfolding entered_all_in
counts_all t [] k a j = refl
counts_all t (s ∷ ss) k a j = counts_all (entered_in t s) ss (kept-entered t s k a.0) a.1 j ∙ counts-entered t s k j

-- nothing but the ids and their counts changes
others-entered : (t : Table) (s : Id) → (entered_in t s).others ≡ t.others
unfolding entered_in
others-entered t s = go (mem s (names_in t) || leb 64 t.count) where
  go : (b : Bool) → (pick_table b t
      (record { ids = put t.ids (16 * t.count) s; counts = set t.counts t.count 0; count = t.count + 1; others = t.others })).others
      ≡ t.others
  go true = refl
  go false = refl

others-all : (t : Table) (ss : List Id) → (entered_all_in t ss).others ≡ t.others
unfolding entered_all_in
others-all t [] = refl
others-all t (s ∷ ss) = others-all (entered_in t s) ss ∙ others-entered t s

-- what `ticked` and `ticked_from` hold at a place
length-ticked : (l : List Id) (ns : List ℕ) (m : List Id) → length (ticked l ns m) ≡ length l
unfolding ticked
length-ticked [] ns m = refl
length-ticked (s ∷ l) [] m = ap suc (length-ticked l [] m)
length-ticked (s ∷ l) (n ∷ ns) m = ap suc (length-ticked l ns m)

ticked-at : (l : List Id) (ns : List ℕ) (m : List Id) (j : ℕ) → j < length l → get_or (ticked l ns m) j 0 ≡ get_or ns j 0 + one (mem (get_or l j []) m)
unfolding ticked
ticked-at [] ns m j h = absurd (omega arith)
ticked-at (s ∷ l) [] m zero h = omega arith
ticked-at (s ∷ l) [] m (suc j) h = ticked-at l [] m j (omega arith)
ticked-at (s ∷ l) (n ∷ ns) m zero h = refl
ticked-at (s ∷ l) (n ∷ ns) m (suc j) h = ticked-at l ns m j (omega arith)

module _ (ids : List ℕ) (ss : List Id) where
  abbrev pub more : List ℕ → ℕ → ℕ
  more c k = get_or c k 0 + one (mem (octets 16 ids (k * 16)) ss)

  length_from : (n k : ℕ) (c : List ℕ) → length (ticked_from ids ss n k c) ≡ length c
  unfolding ticked_from
  length_from zero k c = refl
  length_from (suc n) k c = length_from n (k + 1) (set c k (more c k)) ∙ length-set c k (more c k)

  pub from-before : (n k : ℕ) (c : List ℕ) (j : ℕ) → j < k → get_or (ticked_from ids ss n k c) j 0 ≡ get_or c j 0
  unfolding ticked_from
  from-before zero k c j h = refl
  from-before (suc n) k c j h = from-before n (k + 1) (set c k (more c k)) j (omega arith) ∙ get_or-set_other c k j (more c k) 0 (λ e. omega arith)

  from_at : (n k : ℕ) (c : List ℕ) (j : ℕ) → k ≤ j → j < k + n → k + n ≤ length c → get_or (ticked_from ids ss n k c) j 0 ≡ more c j
  unfolding ticked_from
  from_at zero k c j a b l = absurd (omega arith)
  from_at (suc n) k c j a b l = elim (which (eqb j k)) [
    | inl e ↦ let f = eqb-true j k e in
        from-before n (k + 1) (set c k (more c k)) j (omega arith) ∙ ap (λ (i : ℕ). get_or (set c k (more c k)) i 0) f
        ∙ get_or-set_same c k (more c k) 0 (omega arith) ∙ ap (more c) (sym f)
    | inr e ↦ let f = eqb-false j k e in
        from_at n (k + 1) (set c k (more c k)) j (above f) (omega arith) (omega (arith, length-set c k (more c k)))
        ∙ ap (λ (x : ℕ). x + one (mem (octets 16 ids (j * 16)) ss)) (get_or-set_other c k j (more c k) 0 f)
  ] where
    above : (j ≡ k → ⊥) → k + 1 ≤ j
    above f = omega arith

pub table-offers : TableOffers
unfolding offered_in with_offer
table-offers t ss k a =
    let n : names_in e ≡ entered_all (names_in t) ss = names-all t ss k a in
    let c : take e.count (ticked_from e.ids ss e.count 0 e.counts) ≡ ticked (entered_all (names_in t) ss) (take t.count t.counts) ss =
    counts ∙ ap (λ (l : List Id). ticked l (take t.count t.counts) ss) n in
    let o : e.others + one (not (all_in ss (names_in e))) ≡ t.others + one (not (all_in ss (entered_all (names_in t) ss))) =
    ap (λ (x : ℕ). x + one (not (all_in ss (names_in e)))) (others-all t ss) ∙ ap (λ (l : List Id). t.others + one (not (all_in ss l))) n in
    offers-same n c o where
      offers-same : {a b : List Id} {c d : List ℕ} {x y : ℕ} → a ≡ b → c ≡ d → x ≡ y
          → ◌≡◌ {A = Offers} (record { ids = a; counts = c; others = x }) (record { ids = b; counts = d; others = y })
      offers-same p q r = rw (p, q, r)

      e : Table
      e = entered_all_in t ss

      kept : Kept e
      kept = kept-all t ss k a

      at_place : (j : ℕ) → j < e.count
          → get_or (take e.count (ticked_from e.ids ss e.count 0 e.counts)) j 0
          ≡ get_or (ticked (names_in e) (take t.count t.counts) ss) j 0
      at_place j h =
          let f = kept.few in let p = kept.places in
          let i : get_or (names_in e) j [] ≡ octets 16 e.ids (j * 16) = id-at e.count e.ids j h ∙ ap (octets 16 e.ids) (mul_comm 16 j) in
          take_at e.count (ticked_from e.ids ss e.count 0 e.counts) j h
          ∙ from_at e.ids ss e.count 0 e.counts j (omega arith) (omega arith) (omega arith)
          ∙ ap (λ (x : ℕ). x + one (mem (octets 16 e.ids (j * 16)) ss)) (sym (take_at e.count e.counts j h) ∙ counts_all t ss k a j)
          ∙ ap (λ (x : Id). get_or (take t.count t.counts) j 0 + one (mem x ss)) (sym i)
          ∙ sym (ticked-at (names_in e) (take t.count t.counts) ss j (omega (arith, length_ids e.count e.ids)))

      counts : take e.count (ticked_from e.ids ss e.count 0 e.counts) ≡ ticked (names_in e) (take t.count t.counts) ss
      counts =
          let f = kept.few in let p = kept.places in
          let l : length (take e.count (ticked_from e.ids ss e.count 0 e.counts)) ≡ e.count =
          length-take-le e.count _ (omega (arith, length_from e.ids ss e.count 0 e.counts)) in
          same_lists _ _ (omega (arith, l, length-ticked (names_in e) (take t.count t.counts) ss, length_ids e.count e.ids))
          (λ j h. at_place j (omega (arith, l)))

pub kept-offered : (t : Table) (ss : List Id) → Kept t → AllIds ss → Kept (offered_in t ss)
unfolding offered_in
kept-offered t ss k a =
    let e = kept-all t ss k a in
    record {
      octets = e.octets;
      places = length_from (entered_all_in t ss).ids ss (entered_all_in t ss).count 0 (entered_all_in t ss).counts ∙ e.places;
      few = e.few;
    }

-- the ids of an array's octets
pub ids-each : (n : ℕ) (a : List ℕ) → n * 16 ≤ length a → AllIds (ids_at n a)
unfolding ids_at
ids-each zero a h = tt
ids-each (suc n) a h = (length-take-le 16 a (omega arith), ids-each n (drop 16 a) (omega (arith, length-drop 16 a)))
