-- The table's functions in the words of the code, and what they keep.
-- Assumes nothing.
use Prim.Native.Nat.{ℕ, suc, ◌+◌, ◌*◌, ◌-◌, ◌≤◌, ◌<◌, ◌^◌}
use mathlib.Core.Path.{◌≡◌, refl, sym, ap, subst, ◌∙◌}
use mir.Val.{bool_byte}
use Rattle.std.specs.List.{list_all}
use mathlib.Core.Bool.{Bool, true, false, not, ◌||◌, ◌&&◌}
use mathlib.Core.Logic.{inl, inr}
use mathlib.Core.List.{List, [], ◌∷◌}
use native.Mathlib.Nat.{add-sub_cancel_left}
use native.Mathlib.Omega.{arith}
use lib.ListN.{length, get_or, set, take, drop}
use lib.Seq.{set_out, get_or-set_same, get_or-set_other}
use lib.Dec.{leb, ltb, eqb}
use borrow.Author.Tests.{le-leb, lt-leb, leb-false, ltb-true, ltb-false, eqb-true, eqb-false}
use Rattle.octets.proofs.Bools.{which}
use Rattle.std.specs.declared.slice.ChunksExact.{ChunksExact}
use Rattle.std.specs.Slice.Iter.{chunks_exact_rest, chunks_exact_size, chunks_exact_steps}
use Rattle.std.proofs.lemmas.Iterator.{YieldsList}
use Rattle.schemes.proofs.Chunks.{ids-yielded}
use Rattle.message.specs.Show.{ids_at, ids_of}
use Rattle.put.specs.Put.{put, Written}
use Rattle.schemes.specs.Lists.{Id, mem}
use Rattle.offers.specs.declared.Table.{Table}
use Rattle.coverage.specs.Coverage.{one}
use Rattle.coverage.proofs.Marks.{one-le}
use Rattle.offers.specs.Offers.{all_in}
use Rattle.offers.specs.Table.{names_in, pick_table, entered_in, entered_all_in, ticked_from, offered_in, Counting}

-- ---- `enter`
module _ (t : Table) (id : Id) (b : Bool) (b-is : b ≡ mem id (ids_at t.count t.ids)) where
  pub enter-known : b ≡ true → t ≡ entered_in t id
  unfolding entered_in
  enter-known e = rw (sym b-is ∙ e)

  pub enter-full : b ≡ false → 64 ≤ t.count → t ≡ entered_in t id
  unfolding entered_in
  enter-full e h = rw (sym b-is ∙ e, le-leb _ _ h)

  pub enter-new : b ≡ false → t.count < 64 → (d : List ℕ) (next : ℕ) → Written t.ids (16 * t.count) (length id) id d next
      → ◌≡◌ {A = Table} (record { ids = d; counts = set t.counts t.count 0; count = t.count + 1; others = t.others }) (entered_in t id)
  unfolding entered_in
  enter-new e h d next w = rw (sym b-is ∙ e, lt-leb _ _ h, w.holds)

pub ruleset entries = (enter-known, enter-full, enter-new)

-- ---- `enter_all`
pub or_no : (a b : Bool) → (a || b) ≡ false → b ≡ false
or_no false b e = e
or_no true b e = absurd (let z : ◌≡◌ {A = ℕ} 0 1 = cc in omega arith)

pub entered-few : (t : Table) (s : Id) (r : Table) → t.count ≤ 64 → r ≡ entered_in t s → r.count ≤ 64
unfolding entered_in
entered-few t s r h e = rw e (go (mem s (names_in t) || leb 64 t.count) refl) where
  go : (b : Bool) → (mem s (names_in t) || leb 64 t.count) ≡ b
      → (pick_table b t
      (record { ids = put t.ids (16 * t.count) s; counts = set t.counts t.count 0; count = t.count + 1; others = t.others })).count
      ≤ 64
  go true f = h
  go false f = let l = leb-false 64 t.count (or_no (mem s (names_in t)) _ f) in omega arith

module _ (whole t : Table) where
  pub entries-done : (ids : List Id) → ids ≡ [] → whole ≡ entered_all_in t ids → t ≡ whole
  unfolding entered_all_in
  entries-done ids e inv = sym (rw e at inv)

  pub entries-more : (id : Id) (ids rest : List Id) (r : Table) → ids ≡ id ∷ rest → r ≡ entered_in t id → whole ≡ entered_all_in t ids
      → whole ≡ entered_all_in r rest
  unfolding entered_all_in
  entries-more id ids rest r e f inv = rw e at inv ∙ rw f

-- ---- a truth value as a number
pub from-bool : (b c : Bool) (x : ℕ) → b ≡ c → x ≡ bool_byte b → x ≡ one c
unfolding one
from-bool true c x f e = rw (← f) e
from-bool false c x f e = rw (← f) e

-- ---- `tick`
pub below_set : (b k : ℕ) (l : List ℕ) (x : ℕ) → ((j : ℕ) → k ≤ j → get_or l j 0 < b) → (j : ℕ) → k + 1 ≤ j → get_or (set l k x) j 0 < b
below_set b k l x h j g = rw (get_or-set_other l k j x 0 (λ e. omega arith)) (h j (omega arith))

module _ (ids : List ℕ) (ss : List Id) (whole counts : List ℕ) where
  pub ticks-done : (n k : ℕ) → n ≤ k → whole ≡ ticked_from ids ss (n - k) k counts → counts ≡ whole
  unfolding ticked_from
  ticks-done n k h inv = let e : n - k ≡ 0 = omega arith in sym (rw e at inv)

  pub ticks-more : (n k x : ℕ) → k < n → x ≡ one (mem (take (k * 16 + 16 - k * 16) (drop (k * 16) ids)) ss)
      → whole ≡ ticked_from ids ss (n - k) k counts → whole ≡ ticked_from ids ss (n - (k + 1)) (k + 1) (set counts k (get_or counts k 0 + x))
  unfolding ticked_from
  ticks-more n k x h e inv = let left : n - k ≡ suc (n - (k + 1)) = omega arith in rw left at inv ∙ simp (e, add-sub_cancel_left)

-- ---- `one_beyond`
pub not-one : (b c : Bool) (x : ℕ) → b ≡ c → x ≡ bool_byte (not b) → x ≡ one (not c)
not-one b c x f e = from-bool (not b) (not c) x (ap not f) e

pub whole-yielded : (s : List ℕ) (c : ChunksExact ℕ) → chunks_exact_rest c ≡ s → chunks_exact_size c ≡ 16
    → YieldsList (chunks_exact_steps {A = ℕ}) (λ x. x.now) c (ids_of s)
whole-yielded s c r z = subst (λ (l : List ℕ). YieldsList (chunks_exact_steps {A = ℕ}) (λ x. x.now) c (ids_of l)) r (ids-yielded c z)

pub all_in-all : (m l : List Id) → list_all (λ s. mem s l) m ≡ all_in m l
unfolding all_in
all_in-all [] l = refl
all_in-all (s ∷ m) l = ap (λ (t : Bool). mem s l && t) (all_in-all m l)

-- ---- `add_offer`
set-small : (l : List ℕ) (k j b : ℕ) → get_or l j 0 < b → get_or (set l k 0) j 0 < b
set-small l k j b h = elim (which (ltb k (length l))) [
  | inr e ↦ rw (set_out l k 0 (ltb-false k (length l) e)) h
  | inl e ↦ elim (which (eqb j k)) [
    | inl f ↦ rw (eqb-true j k f, get_or-set_same l k 0 0 (ltb-true k (length l) e)) (omega arith)
    | inr f ↦ rw (get_or-set_other l k j 0 0 (eqb-false j k f)) h
  ]
]

counting-entered : (t : Table) (s : Id) → Counting t → Counting (entered_in t s)
unfolding entered_in
counting-entered t s c = go (mem s (names_in t) || leb 64 t.count) refl where
  go : (b : Bool) → (mem s (names_in t) || leb 64 t.count) ≡ b
      → Counting
      (pick_table b t
      (record { ids = put t.ids (16 * t.count) s; counts = set t.counts t.count 0; count = t.count + 1; others = t.others }))
  go true f = c
  go false f =
      let l = leb-false 64 t.count (or_no (mem s (names_in t)) _ f) in
      record { few = omega arith; small = λ j. set-small t.counts t.count j 9223372036854775808 (c.small j); rest = c.rest }

pub counting-all : (t : Table) (ss : List Id) → Counting t → Counting (entered_all_in t ss)
unfolding entered_all_in
counting-all t [] c = c
counting-all t (s ∷ ss) c = counting-all (entered_in t s) ss (counting-entered t s c)

module _ (t e : Table) (ss : List Id) (k : Counting t) (e-is : e ≡ entered_all_in t ss) where
  here : Counting e
  here = rw e-is (counting-all t ss k)

  pub offer-few : e.count ≤ 64
  offer-few = here.few

  pub offer-small : (j : ℕ) → get_or e.counts j 0 < 9223372036854775808
  offer-small = here.small

  pub offer-room : length e.ids ≡ 1024 → e.count * 16 ≤ length e.ids
  offer-room h = omega (arith, here.few)

  pub offer-sum : (x : ℕ) (b : Bool) → x ≡ one b → e.others + x < 2 ^ 64
  offer-sum x b x-is = omega (arith, here.rest, one-le b x x-is)

  pub offer-is : (counts : List ℕ) → counts ≡ ticked_from e.ids ss e.count 0 e.counts → (x : ℕ)
      → x ≡ one (not (all_in ss (ids_at e.count e.ids)))
      → ◌≡◌ {A = Table} (record { ids = e.ids; counts = counts; count = e.count; others = e.others + x }) (offered_in t ss)
  unfolding offered_in
  offer-is counts counts-is x x-is = rw (counts-is, x-is, e-is)

pub ruleset offers = (offer-few, offer-small, offer-room, offer-sum, offer-is)
