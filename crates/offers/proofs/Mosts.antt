-- How much a message adds to a table.
-- Assumes nothing.
use Prim.Native.Nat.{ℕ, zero, suc, ◌+◌, ◌*◌, ◌≤◌}
use mathlib.Core.Path.{◌≡◌, refl, ap, ◌∙◌}
use mathlib.Core.Bool.{Bool, true, false, not, ◌||◌}
use mathlib.Core.Logic.{inl, inr}
use mathlib.Core.List.{List, [], ◌∷◌}
use native.Mathlib.Omega.{arith}
use lib.ListN.{length, get_or, set}
use lib.Seq.{set_out, get_or-set_same, get_or-set_other}
use lib.Dec.{leb, ltb, eqb}
use borrow.Author.Tests.{leb-false, ltb-true, ltb-false, eqb-true, eqb-false}
use Rattle.octets.specs.Octets.{octets}
use Rattle.octets.proofs.Bools.{which}
use Rattle.put.specs.Put.{put}
use Rattle.schemes.specs.Lists.{Id, mem}
use Rattle.coverage.specs.Coverage.{one}
use Rattle.coverage.proofs.Marks.{one-le}
use Rattle.offers.specs.declared.Table.{Table}
use Rattle.offers.specs.Offers.{all_in}
use Rattle.offers.specs.Table.{names_in, pick_table, entered_in, entered_all_in, ticked_from, offered_in}
use Rattle.offers.proofs.Entering.{or_no}
use Rattle.offers.proofs.Views.{more, from-before}

-- a number that is set, at its place and elsewhere
pub set-most : (l : List ℕ) (k x j b : ℕ) → get_or l j 0 ≤ b → x ≤ b → get_or (set l k x) j 0 ≤ b
set-most l k x j b h g = elim (which (ltb k (length l))) [
  | inr e ↦ rw (set_out l k x (ltb-false k (length l) e)) h
  | inl e ↦ elim (which (eqb j k)) [
    | inl f ↦ rw (eqb-true j k f, get_or-set_same l k x 0 (ltb-true k (length l) e)) g
    | inr f ↦ rw (get_or-set_other l k j x 0 (eqb-false j k f)) h
  ]
]

-- a table that is no greater than another
record Most (t r : Table) : Type 0 where
  few : t.count ≤ 64 → r.count ≤ 64
  counts : (j : ℕ) → get_or r.counts j 0 ≤ get_or t.counts j 0
  others : r.others ≡ t.others

entered-most : (t : Table) (s : Id) → Most t (entered_in t s)
unfolding entered_in
entered-most t s = go (mem s (names_in t) || leb 64 t.count) refl where
  go : (b : Bool) → (mem s (names_in t) || leb 64 t.count) ≡ b
      → Most t
      (pick_table b t
      (record { ids = put t.ids (16 * t.count) s; counts = set t.counts t.count 0; count = t.count + 1; others = t.others }))
  go true e = record { few = λ h. h; counts = λ j. omega arith; others = refl }
  go false e =
      let l = leb-false 64 t.count (or_no (mem s (names_in t)) _ e) in
      record {
        few = λ h. omega arith;
        counts = λ j. set-most t.counts t.count 0 j (get_or t.counts j 0) (omega arith) (omega arith);
        others = refl;
      }

all_most : (t : Table) (ss : List Id) → Most t (entered_all_in t ss)
unfolding entered_all_in
all_most t [] = record { few = λ h. h; counts = λ j. omega arith; others = refl }
all_most t (s ∷ ss) =
    let a = entered-most t s in let b = all_most (entered_in t s) ss in
    record { few = λ h. b.few (a.few h); counts = λ j. omega (arith, a.counts j, b.counts j); others = b.others ∙ a.others }

module _ (ids : List ℕ) (ss : List Id) where
  ticked-most : (n k : ℕ) (c : List ℕ) (j : ℕ) → get_or (ticked_from ids ss n k c) j 0 ≤ get_or c j 0 + 1
  unfolding ticked_from
  ticked-most zero k c j = omega arith
  ticked-most (suc n) k c j = elim (which (eqb j k)) [
    | inl e ↦ let f = eqb-true j k e in
        let x : more ids ss c k ≤ get_or c j 0 + 1 =
        omega (arith, one-le (mem (octets 16 ids (k * 16)) ss) (one (mem (octets 16 ids (k * 16)) ss)) refl, ap (λ (i : ℕ). get_or c i 0) f) in
        rw (from-before ids ss n (k + 1) (set c k (more ids ss c k)) j (omega arith))
        (set-most c k (more ids ss c k) j (get_or c j 0 + 1) (omega arith) x)
    | inr e ↦ omega (arith, ticked-most n (k + 1) (set c k (more ids ss c k)) j, get_or-set_other c k j (more ids ss c k) 0 (eqb-false j k e))
  ]

module _ (t : Table) (ss : List Id) where
  pub offered-few : t.count ≤ 64 → (offered_in t ss).count ≤ 64
  unfolding offered_in
  offered-few h = (all_most t ss).few h

  pub offered-counts : (j : ℕ) → get_or (offered_in t ss).counts j 0 ≤ get_or t.counts j 0 + 1
  unfolding offered_in
  offered-counts j =
      omega (arith, (all_most t ss).counts j, ticked-most (entered_all_in t ss).ids ss (entered_all_in t ss).count 0 (entered_all_in t ss).counts j)

  pub offered-others : (offered_in t ss).others ≤ t.others + 1
  unfolding offered_in
  offered-others = omega (arith, (all_most t ss).others, one-le (not (all_in ss (names_in (entered_all_in t ss)))) _ refl)
