-- The list of mechanisms, in the words of the code.
-- Assumes nothing.
use Prim.Native.Nat.{ℕ, zero, suc, ◌+◌, ◌-◌, ◌<◌, ◌≤◌}
use mathlib.Core.Path.{◌≡◌, refl, sym, ap, ◌∙◌}
use mathlib.Core.Bool.{Bool, true, false, cond}
use mathlib.Core.List.{List, [], ◌∷◌}
use mathlib.Core.Logic.{◌⊎◌, inl, inr}
use native.Mathlib.Omega.{arith}
use lib.ListN.{length}
use lib.Dec.{leb}
use borrow.Author.Tests.{le-leb, lt-leb}
use Rattle.std.specs.Prelude.{Result, Ok, Err, IsErrAnd}
use Rattle.octets.proofs.Bools.{which}
use Rattle.refusal.specs.declared.Refusal.{Refusal}
use Rattle.refusal.specs.declared.Refusal.TheVariants as refusal
use Rattle.refusal.specs.Refusals.{number_of}
use Rattle.der.specs.Got.{Got, ok, no, bind, check}
use Rattle.der.specs.Element.{Part, cut, any}
use Rattle.der.specs.Grammar.{within, only}
use Rattle.der.specs.Holder.{HolderAt, octets_at, Cuts}
use Rattle.der.specs.declared.Part.{Part as Section}
use Rattle.der.proofs.Parts.{part_none, part-cons, length_part}
use Rattle.der.proofs.Gots.{check-ok}
use Rattle.der.proofs.Answers.{got-no, got-ok, got-placed, passed-on}
use Rattle.envelope.specs.Reading.{filled, identifiers_of, list_of, mechanisms_of}
use Rattle.envelope.specs.Answers.{mechanisms_in, value_of, Counts, Lists}
use Rattle.envelope.proofs.Holders.{holder_in, holder-behind, closed-end, closed-left}
use Rattle.envelope.proofs.Identifiers.{identifiers-forth}

-- how many of k identifiers are still allowed behind those in v
unfoldable pub left_of : ℕ → List ℕ → Got ℕ
left_of zero v = cond (filled v) (bind (cut 0x06 any v) (λ q. no 23)) (ok 0)
left_of (suc k) v = cond (filled v) (bind (cut 0x06 any v) (λ q. left_of k q.rest)) (ok (suc k))

-- the same of a whole list
unfoldable left_count : List ℕ → Got ℕ
left_count v = check (filled v) 20 (left_of 16 v)

-- the same once `count` were read; behind the sixteenth there may be none
unfoldable pub going : ℕ → List ℕ → Got ℕ
going count v = cond (leb count 16) (left_of (16 - count) v) (no 23)

-- what the loop answers, of the list
left_is : (k : ℕ) (v : List ℕ) → left_of k v ≡ bind (identifiers_of k v) (λ ms. ok (k - length ms))
unfolding left_of identifiers_of
left_is zero v = go (which (filled v)) where
  go : (filled v ≡ true) ⊎ (filled v ≡ false) → left_of 0 v ≡ bind (identifiers_of 0 v) (λ ms. ok (0 - length ms))
  go (inl e) = rw e (two (cut 0x06 any v)) where
    two : (g : Got (Part (List ℕ)))
        → ◌≡◌ {A = Got ℕ} (bind g (λ q. no 23)) (bind (bind {B = List (List ℕ)} g (λ q. no 23)) (λ ms. ok (0 - length ms)))
    two (ok q) = refl
    two (no n) = refl
  go (inr e) = rw e
left_is (suc k) v = go (which (filled v)) (left_is k) where
  go : (filled v ≡ true) ⊎ (filled v ≡ false) → ((w : List ℕ) → left_of k w ≡ bind (identifiers_of k w) (λ ms. ok (k - length ms)))
      → left_of (suc k) v ≡ bind (identifiers_of (suc k) v) (λ ms. ok (suc k - length ms))
  go (inl e) f = rw e (two (cut 0x06 any v)) where
    three : (m : List ℕ) (g : Got (List (List ℕ)))
        → bind g (λ ms. ok (k - length ms)) ≡ bind (bind g (λ ms. ok (m ∷ ms))) (λ ms. ok (suc k - length ms))
    three m (ok ms) = let z : k - length ms ≡ suc k - suc (length ms) = omega arith in ap ok z
    three m (no n) = refl

    two : (g : Got (Part (List ℕ))) → bind g (λ q. left_of k q.rest)
        ≡ bind (bind g (λ q. bind (identifiers_of k q.rest) (λ ms. ok (q.value ∷ ms)))) (λ ms. ok (suc k - length ms))
    two (ok q) = f q.rest ∙ three q.value (identifiers_of k q.rest)
    two (no n) = refl
  go (inr e) f = let z : suc k ≡ suc k - 0 = omega arith in rw e (ap ok z)

count-is : (v : List ℕ) → left_count v ≡ bind (list_of v) (λ ms. ok (16 - length ms))
unfolding left_count list_of check
count-is v = go (filled v) (left_is 16 v) where
  go : (b : Bool) → left_of 16 v ≡ bind (identifiers_of 16 v) (λ ms. ok (16 - length ms))
      → check b 20 (left_of 16 v) ≡ bind (check b 20 (identifiers_of 16 v)) (λ ms. ok (16 - length ms))
  go true e = e
  go false e = refl

list-no : (v : List ℕ) (n : ℕ) → left_count v ≡ no n → list_of v ≡ no n
list-no v n e = go (list_of v) (sym (count-is v) ∙ e) where
  go : (g : Got (List (List ℕ))) → bind g (λ ms. ok (16 - length ms)) ≡ no n → g ≡ no n
  go (ok ms) k = let z : ◌≡◌ {A = ℕ} 0 1 = cc in absurd (omega arith)
  go (no m) k = cc

few : (v : List ℕ) (ms : List (List ℕ)) → list_of v ≡ ok ms → length ms ≤ 16
unfolding list_of
few v ms e = (identifiers-forth 16 v ms (check-ok (filled v) 20 (identifiers_of 16 v) ms e).1).1

record Listing (v : List ℕ) (n : ℕ) : Type 0 where
  is : list_of v ≡ ok (value_of (list_of v))
  left : n ≤ 16
  number : 16 - n ≡ length (value_of (list_of v))

list-ok : (v : List ℕ) (n : ℕ) → left_count v ≡ ok n → Listing v n
list-ok v n e = go (list_of v) refl (sym (count-is v) ∙ e) where
  go : (g : Got (List (List ℕ))) → list_of v ≡ g → bind g (λ ms. ok (16 - length ms)) ≡ ok n → Listing v n
  go (ok ms) k h =
      let z : 16 - length ms ≡ n = cc in
      let f : length ms ≤ 16 = few v ms k in
      record { is = rw k; left = omega arith; number = rw k (omega arith) }
  go (no m) k h = let z : ◌≡◌ {A = ℕ} 0 1 = cc in absurd (omega arith)

-- what a count answers, of a list that fits
module _ (s : List ℕ) (L : Section) (h : HolderAt s L) where
  abbrev v : List ℕ
  v = octets_at s L

  abbrev Counted : Result ℕ Refusal → Type 0
  Counted r = Counts v r

  pub in-holder : mechanisms_in v ≡ value_of (list_of v)
  unfolding check
  in-holder =
      let o = h.order in let i = h.inside in let m = h.small in
      rw (le-leb (length v) 65535 (omega (arith, length_part s L.from L.end h.order h.inside)))

  counted-no : (e : Refusal) → left_count v ≡ no (number_of e) → Counted (Err e)
  counted-no e k = record { same = sym (list-no v (number_of e) k); placed = tt }

  pub count_none : L.from ≡ L.end → Counted (Err refusal.Element)
  unfolding left_count check filled
  count_none e = counted-no refusal.Element (rw (← e, part_none s L.from))

  module _ (some : L.from ≡ L.end → ⊥) where
    is-filled : filled v ≡ true
    unfolding filled
    is-filled = let o = h.order in rw (part-cons s L.from L.end (omega arith) h.inside)

    pub count-start : left_of 16 v ≡ going 0 v
    unfolding going
    count-start = refl

    -- one turn of the loop: what is known of the whole list is so of its rest
    module _ (rest : Section) (count : ℕ) (k : HolderAt s rest) (inv : left_of 16 v ≡ going count (octets_at s rest)) where
      whole : (g : Got ℕ) → left_of 16 v ≡ g → left_count v ≡ g
      unfolding left_count check
      whole g e = rw (is-filled, e)

      pub count-end : rest.from ≡ rest.end → count < 17 → Counted (Ok count)
      unfolding going left_of filled
      count-end e c =
          let is : left_of 16 v ≡ ok (16 - count) =
          inv ∙ rw (le-leb count 16 (omega arith), ← e, part_none s rest.from) (none (16 - count)) in
          let l : Listing v (16 - count) = list-ok v (16 - count) (whole (ok (16 - count)) is) in
          record { same = sym (l.is ∙ ap ok (sym in-holder)); placed = rw in-holder (sym' l) } where
            none : (n : ℕ) → left_of n [] ≡ ok n
            none zero = refl
            none (suc n) = refl

            sym' : Listing v (16 - count) → count ≡ length (value_of (list_of v))
            sym' l = let z = l.number in omega arith

      pub count-many : 17 ≤ count → Counted (Err refusal.Mechanisms)
      unfolding going
      count-many c = counted-no refusal.Mechanisms (whole (no 23) (inv ∙ rw (lt-leb count 16 (omega arith))))

      module _ (more : rest.from ≡ rest.end → ⊥) (fits : count < 17) (c : Result (Section × Section) Refusal)
          (says : Cuts s rest (cut 0x06 any (octets_at s rest)) c) where
        rest-filled : filled (octets_at s rest) ≡ true
        unfolding filled
        rest-filled = let o = k.order in rw (part-cons s rest.from rest.end (omega arith) k.inside)

        pub count-no : (e : Refusal) → c ≡ Err e → (x : Result ℕ Refusal) → IsErrAnd x (λ y. y ≡ e) → Counted x
        unfolding going left_of
        count-no e z (Ok y) x-is = absurd x-is
        count-no e z (Err y) x-is =
            rw x-is (counted-no e (whole (no (number_of e)) (inv ∙ rw (le-leb count 16 (omega arith)) (stop (16 - count))))) where
              stop : (n : ℕ) → left_of n (octets_at s rest) ≡ no (number_of e)
              stop zero = rw (rest-filled, got-no says e z)
              stop (suc n) = rw (rest-filled, got-no says e z)

        module _ (m behind : Section) (c-is : c ≡ Ok (m, behind)) where
          pub count-behind : HolderAt s behind
          count-behind = holder-behind s rest says m behind c-is k

          pub count-more : left_of 16 v ≡ going (count + 1) (octets_at s behind)
          unfolding going left_of
          count-more = inv ∙ rw (le-leb count 16 (omega arith)) (step (16 - count) refl) where
            step : (n : ℕ) → n ≡ 16 - count
                → left_of n (octets_at s rest) ≡ cond (leb (count + 1) 16) (left_of (16 - (count + 1)) (octets_at s behind)) (no 23)
            step zero z = rw (rest-filled, got-ok says _ c-is, lt-leb (count + 1) 16 (omega arith))
            step (suc n) z =
                let y : 16 - (count + 1) ≡ n = omega arith in
                rw (rest-filled, got-ok says _ c-is, le-leb (count + 1) 16 (omega arith), y)

pub ruleset counting = (count_none, count-start, count-end, count-many, count-no, count-behind, count-more)

module _ (s : List ℕ) (H : Section) (h : HolderAt s H) (x : Result (Section × Section) Refusal)
    (says : Cuts s H (cut 0xA0 any (octets_at s H)) x) where
  abbrev Says : Result (Section × ℕ × Section) Refusal → Type 0
  Says r = Lists s H (mechanisms_of (octets_at s H)) r

  pub list-outer-no : (e : Refusal) → x ≡ Err e → (r : Result (Section × ℕ × Section) Refusal) → IsErrAnd r (λ y. y ≡ e) → Says r
  unfolding within
  list-outer-no e k r r-is = passed-on says e k _ r r-is

  module _ (f behind : Section) (x-is : x ≡ Ok (f, behind)) where
    pub list-outer : HolderAt s f
    list-outer = holder_in s H says f behind x-is h

    module _ (y : Result (Section × Section) Refusal) (says' : Cuts s f (cut 0x30 any (octets_at s f)) y) where
      pub list-inner-no : (e : Refusal) → y ≡ Err e → (r : Result (Section × ℕ × Section) Refusal) → IsErrAnd r (λ y. y ≡ e) → Says r
      unfolding within only
      list-inner-no e k (Ok z) r-is = absurd r-is
      list-inner-no e k (Err z) r-is = rw r-is (record { same = sym (rw (got-ok says _ x-is, got-no says' e k)); placed = tt })

      module _ (l rest : Section) (y-is : y ≡ Ok (l, rest)) where
        pub list-inner : HolderAt s l
        list-inner = holder_in s f says' l rest y-is list-outer

        module _ (i : Result ℕ Refusal) (i-says : Counts (octets_at s l) i) where
          pub list-refused : (e : Refusal) → i ≡ Err e → (r : Result (Section × ℕ × Section) Refusal) → IsErrAnd r (λ y. y ≡ e) → Says r
          unfolding within only
          list-refused e k (Ok z) r-is = absurd r-is
          list-refused e k (Err z) r-is =
              rw r-is (record { same = sym (rw (got-ok says _ x-is, got-ok says' _ y-is, got-no i-says e k)); placed = tt })

          module _ (n : ℕ) (i-ok : i ≡ Ok n) where
            rest-holder : HolderAt s rest
            rest-holder = holder-behind s f says' l rest y-is list-outer

            abbrev ms : List (List ℕ)
            ms = mechanisms_in (octets_at s l)

            listed : list_of (octets_at s l) ≡ ok ms
            listed = got-ok i-says n i-ok

            pub list_left : (rest.from ≡ rest.end → ⊥) → Says (Err refusal.LeftOver)
            unfolding within only
            list_left k =
                record {
                  same = sym (rw (got-ok says _ x-is, got-ok says' _ y-is, listed, closed-left s rest rest-holder ms k));
                  placed = tt;
                }

            found : (ms : List (List ℕ)) → list_of (octets_at s l) ≡ ok ms → rest.from ≡ rest.end
                → mechanisms_of (octets_at s H) ≡ ok (record { value = ms; rest = octets_at s behind })
            unfolding within only
            found ms is k = rw (got-ok says _ x-is, got-ok says' _ y-is, is, closed-end s rest rest-holder ms k)

            pub list-found : rest.from ≡ rest.end → Says (Ok (l, n, behind))
            list-found k =
                let o = list-inner in
                let j = got-placed says (f, behind) x-is in
                record {
                  same = sym (found ms listed k);
                  placed = (
                    record { order = o.order; inside = o.inside; counted = got-placed i-says n i-ok },
                    holder-behind s H says f behind x-is h,
                    j.last,
                  );
                }
