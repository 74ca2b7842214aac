-- A table that takes messages one by one is the table of all of them.
-- Assumes nothing.
use Prim.Native.Nat.{ℕ, ◌+◌, ◌≤◌, ◌<◌}
use mathlib.Core.Path.{◌≡◌, refl, sym, ap, ◌∙◌}
use mathlib.Core.Bool.{Bool, true, false, cond, not, ◌||◌}
use mathlib.Core.Logic.{◌⊎◌, inl, inr}
use mathlib.Core.List.{List, [], ◌∷◌, ◌++◌, append_assoc, append-nil}
use native.Mathlib.Omega.{arith}
use lib.ListN.{length, length-append}
use lib.Dec.{leb}
use borrow.Author.Tests.{le-leb, leb-true, leb-false}
use Rattle.octets.proofs.Bools.{which}
use Rattle.octets.specs.Octets.{same_octets}
use Rattle.octets.proofs.Same.{same-eq, same_refl}
use Rattle.schemes.specs.Lists.{Id, mem}
use Rattle.schemes.proofs.Choice.{mem-head, mem-tail}
use Rattle.offers.specs.Offers.{entered, entered_all, mentioned, first_schemes, listing, all_in, beyond, listings, offers_of, ticked, with_offer, with_offers, OfferCounted}
use Rattle.coverage.specs.Coverage.{one}

-- ---- membership
pub mem-append : (s : Id) (l k : List Id) → mem s (l ++ k) ≡ (mem s l || mem s k)
unfolding mem
mem-append s [] k = refl
mem-append s (x ∷ l) k = go (same_octets s x) (mem-append s l k) where
  go : (b : Bool) → mem s (l ++ k) ≡ (mem s l || mem s k) → cond b true (mem s (l ++ k)) ≡ (cond b true (mem s l) || mem s k)
  go true e = refl
  go false e = e

or-true : (a b : Bool) → a ≡ true → (a || b) ≡ true
or-true a b e = rw e

or_right : (a b : Bool) → b ≡ true → (a || b) ≡ true
or_right true b e = refl
or_right false b e = e

-- what is entered stays; a full table stays as it is
entered-keeps : (l : List Id) (x s : Id) → mem s l ≡ true → mem s (entered l x) ≡ true
unfolding entered
entered-keeps l x s h = go (mem x l || leb 64 (length l)) where
  go : (b : Bool) → mem s (cond b l (l ++ (x ∷ []))) ≡ true
  go true = h
  go false = mem-append s l (x ∷ []) ∙ or-true _ _ h

all-keeps : (l xs : List Id) (s : Id) → mem s l ≡ true → mem s (entered_all l xs) ≡ true
unfolding entered_all
all-keeps l [] s h = h
all-keeps l (x ∷ xs) s h = all-keeps (entered l x) xs s (entered-keeps l x s h)

entered-full : (l : List Id) (x : Id) → 64 ≤ length l → entered l x ≡ l
unfolding entered
entered-full l x h = rw (le-leb 64 (length l) h) (go (mem x l)) where
  go : (b : Bool) → cond (b || true) l (l ++ (x ∷ [])) ≡ l
  go true = refl
  go false = refl

all-full : (l xs : List Id) → 64 ≤ length l → entered_all l xs ≡ l
unfolding entered_all
all-full l [] h = refl
all-full l (x ∷ xs) h = rw (entered-full l x h) (all-full l xs h)

entered-self : (l : List Id) (x : Id) → leb 64 (length l) ≡ false → mem x (entered l x) ≡ true
unfolding entered mem
entered-self l x f = rw f (go (which (mem x l))) where
  last : mem x (x ∷ []) ≡ true
  last = rw (same_refl x)

  go : (mem x l ≡ true) ⊎ (mem x l ≡ false) → mem x (cond (mem x l || false) l (l ++ (x ∷ []))) ≡ true
  go (inl e) = rw e e
  go (inr e) = rw e (mem-append x l (x ∷ []) ∙ rw (e, last))

-- ---- a scheme that is mentioned and not in the table met a full one
full-or : (l xs : List Id) (s : Id) → mem s xs ≡ true → (mem s (entered_all l xs) ≡ true) ⊎ (64 ≤ length (entered_all l xs))
unfolding entered_all mem
full-or l [] s h = absurd (let z : ◌≡◌ {A = ℕ} 0 1 = cc in omega arith)
full-or l (x ∷ xs) s h = go (same_octets s x) refl h (λ k. full-or (entered l x) xs s k) where
  go : (b : Bool) → same_octets s x ≡ b → cond b true (mem s xs) ≡ true
      → (mem s xs ≡ true → (mem s (entered_all (entered l x) xs) ≡ true) ⊎ (64 ≤ length (entered_all (entered l x) xs)))
      → (mem s (entered_all (entered l x) xs) ≡ true) ⊎ (64 ≤ length (entered_all (entered l x) xs))
  go false e k r = r k
  go true e k r = elim (which (leb 64 (length l))) [
    | inl f ↦ let m = leb-true 64 (length l) f in inr (rw (entered-full l x m, all-full l xs m) m)
    | inr f ↦ inl (all-keeps (entered l x) xs s (rw (same-eq s x e) (entered-self l x f)))
  ]

all_append : (l xs ys : List Id) → entered_all l (xs ++ ys) ≡ entered_all (entered_all l xs) ys
unfolding entered_all
all_append l [] ys = refl
all_append l (x ∷ xs) ys = all_append (entered l x) xs ys

-- so later messages do not change whether it is in the table
pub stable : (l xs ys : List Id) (s : Id) → mem s xs ≡ true → mem s (entered_all l (xs ++ ys)) ≡ mem s (entered_all l xs)
stable l xs ys s h = elim (full-or l xs s h) [
  | inl e ↦ rw (all_append l xs ys, e) (all-keeps (entered_all l xs) ys s e)
  | inr e ↦ rw (all_append l xs ys, all-full (entered_all l xs) ys e)
]

-- ---- a table with one message more
mentioned-snoc : (ms : List (List Id)) (m : List Id) → mentioned (ms ++ (m ∷ [])) ≡ mentioned ms ++ m
unfolding mentioned
mentioned-snoc [] m = append-nil m
mentioned-snoc (k ∷ ms) m = rw (mentioned-snoc ms m) (sym (append_assoc k (mentioned ms) m))

pub first-snoc : (ms : List (List Id)) (m : List Id) → first_schemes (ms ++ (m ∷ [])) ≡ entered_all (first_schemes ms) m
unfolding first_schemes
first-snoc ms m = rw (mentioned-snoc ms m) (all_append [] (mentioned ms) m)

listing-snoc : (s : Id) (ms : List (List Id)) (m : List Id) → listing s (ms ++ (m ∷ [])) ≡ listing s ms + one (mem s m)
unfolding listing
listing-snoc s [] m = omega arith
listing-snoc s (k ∷ ms) m = omega (arith, listing-snoc s ms m)

-- a scheme that none of the messages mentions has no listing
listing_none : (s : Id) (ms : List (List Id)) → mem s (mentioned ms) ≡ false → listing s ms ≡ 0
unfolding listing mentioned one
listing_none s [] h = refl
listing_none s (m ∷ ms) h = go (mem s m) (mem s (mentioned ms)) (sym (mem-append s m (mentioned ms)) ∙ h) (λ k. listing_none s ms k) where
  go : (a b : Bool) → (a || b) ≡ false → (b ≡ false → listing s ms ≡ 0) → one a + listing s ms ≡ 0
  go false b e r = omega (arith, r e)
  go true b e r = absurd (let z : ◌≡◌ {A = ℕ} 0 1 = cc in omega arith)

-- ---- what a table gains
abbrev All : (Id → Type 0) → List Id → Type 0
All P [] = Unit {0}
All P (x ∷ xs) = P x × All P xs

record Grown (P : Id → Type 0) (old l : List Id) : Type 0 where
  new : List Id
  is : l ≡ old ++ new
  each : All P new

all_snoc : (P : Id → Type 0) (xs : List Id) (x : Id) → All P xs → P x → All P (xs ++ (x ∷ []))
all_snoc P [] x a p = (p, tt)
all_snoc P (y ∷ xs) x a p = (a.0, all_snoc P xs x a.1 p)

or-false : (a b : Bool) → (a || b) ≡ false → (a ≡ false) × (b ≡ false)
or-false false b e = (refl, e)
or-false true b e = absurd (let z : ◌≡◌ {A = ℕ} 0 1 = cc in omega arith)

module _ (P : Id → Type 0) (old : List Id) (enters : (s : Id) → mem s old ≡ false → length old < 64 → P s) where
  grown-entered : (l : List Id) (x : Id) → Grown P old l → Grown P old (entered l x)
  unfolding entered
  grown-entered l x g = elim (which (mem x l || leb 64 (length l))) [
    | inl e ↦ rw e g
    | inr e ↦ rw e (more (or-false _ _ e))
  ] where
    more : (mem x l ≡ false) × (leb 64 (length l) ≡ false) → Grown P old (l ++ (x ∷ []))
    more e =
        let m : mem x old ≡ false = (or-false _ _ (sym (mem-append x old g.new) ∙ rw g.is at e.0)).0 in
        let k = leb-false 64 (length l) e.1 in
        let n : length l ≡ length old + length g.new = ap length g.is ∙ length-append old g.new in
        record {
          new = g.new ++ (x ∷ []);
          is = rw g.is (append_assoc old g.new (x ∷ []));
          each = all_snoc P g.new x g.each (enters x m (omega arith));
        }

  grown-all : (l xs : List Id) → Grown P old l → Grown P old (entered_all l xs)
  unfolding entered_all
  grown-all l [] g = g
  grown-all l (x ∷ xs) g = grown-all (entered l x) xs (grown-entered l x g)

-- a scheme that enters a table which has room was mentioned by none of the messages before
abbrev Unlisted : List (List Id) → Id → Type 0
Unlisted ms s = listing s ms ≡ 0

entering : (ms : List (List Id)) (s : Id) → mem s (first_schemes ms) ≡ false → length (first_schemes ms) < 64 → Unlisted ms s
unfolding first_schemes
entering ms s out room = elim (which (mem s (mentioned ms))) [
  | inr e ↦ listing_none s ms e
  | inl e ↦ elim (full-or [] (mentioned ms) s e) [
    | inl f ↦ absurd (let z : ◌≡◌ {A = ℕ} 0 1 = cc in omega arith)
    | inr f ↦ absurd (omega arith)
  ]
]

gained : (ms : List (List Id)) (m : List Id) → Grown (Unlisted ms) (first_schemes ms) (entered_all (first_schemes ms) m)
gained ms m =
    grown-all (Unlisted ms) (first_schemes ms) (entering ms) (first_schemes ms) m
    (record { new = []; is = sym (append-nil (first_schemes ms)); each = tt })

-- ---- the counts
ticked-new : (ms : List (List Id)) (m : List Id) (k : List Id) → All (Unlisted ms) k → ticked k [] m ≡ listings k (ms ++ (m ∷ []))
unfolding ticked listings
ticked-new ms m [] a = refl
ticked-new ms m (s ∷ k) a =
    let e : one (mem s m) ≡ listing s (ms ++ (m ∷ [])) = omega (arith, listing-snoc s ms m, a.0) in
    rw (e, ticked-new ms m k a.1)

ticked-is : (ms : List (List Id)) (m : List Id) (l k : List Id) → All (Unlisted ms) k
    → ticked (l ++ k) (listings l ms) m ≡ listings (l ++ k) (ms ++ (m ∷ []))
unfolding ticked listings
ticked-is ms m [] k a = ticked-new ms m k a
ticked-is ms m (s ∷ l) k a = rw (ticked-is ms m l k a, listing-snoc s ms m)

-- ---- the others
module _ (ms : List (List Id)) (m : List Id) where
  abbrev Mentioned : List Id → Type 0
  Mentioned k = (s : Id) → mem s k ≡ true → mem s (mentioned ms) ≡ true

  all_in-stable : (k : List Id) → Mentioned k → all_in k (first_schemes (ms ++ (m ∷ []))) ≡ all_in k (first_schemes ms)
  unfolding all_in first_schemes
  all_in-stable [] h = refl
  all_in-stable (s ∷ k) h =
      let e : mem s (entered_all [] (mentioned (ms ++ (m ∷ [])))) ≡ mem s (entered_all [] (mentioned ms)) =
      rw (mentioned-snoc ms m) (stable [] (mentioned ms) m s (h s (mem-head s k))) in
      let f = all_in-stable k (λ t g. h t (mem-tail t s k g)) in
      rw (e, f)

  beyond-stable : (ks : List (List Id)) → Mentioned (mentioned ks) → beyond (first_schemes (ms ++ (m ∷ []))) ks ≡ beyond (first_schemes ms) ks
  unfolding beyond mentioned
  beyond-stable [] h = refl
  beyond-stable (k ∷ ks) h =
      let e = all_in-stable k (λ s g. h s (mem-append s k (mentioned ks) ∙ or-true (mem s k) (mem s (mentioned ks)) g)) in
      let f = beyond-stable ks (λ s g. h s (mem-append s k (mentioned ks) ∙ or_right (mem s k) (mem s (mentioned ks)) g)) in
      rw (e, f)

beyond-snoc : (l : List Id) (ms : List (List Id)) (m : List Id) → beyond l (ms ++ (m ∷ [])) ≡ beyond l ms + one (not (all_in m l))
unfolding beyond
beyond-snoc l [] m = omega arith
beyond-snoc l (k ∷ ms) m = omega (arith, beyond-snoc l ms m)

-- ---- one message more, and all messages
pub offer-counted : OfferCounted
unfolding with_offer offers_of
offer-counted ms m =
    let g = gained ms m in
    let a : entered_all (first_schemes ms) m ≡ first_schemes (ms ++ (m ∷ [])) = sym (first-snoc ms m) in
    let c : ticked (entered_all (first_schemes ms) m) (listings (first_schemes ms) ms) m ≡ listings (entered_all (first_schemes ms) m) (ms ++ (m ∷ [])) =
    rw g.is (ticked-is ms m (first_schemes ms) g.new g.each) in
    let o : beyond (first_schemes (ms ++ (m ∷ []))) (ms ++ (m ∷ [])) ≡ beyond (first_schemes ms) ms + one (not
    (all_in m (entered_all (first_schemes ms) m))) =
    beyond-snoc (first_schemes (ms ++ (m ∷ []))) ms m ∙ rw (beyond-stable ms m ms (λ s h. h), first-snoc ms m) in
    rw (c, ← o, a)

pub offers-counted : (ks ms : List (List Id)) → with_offers (offers_of ks) ms ≡ offers_of (ks ++ ms)
unfolding with_offers
offers-counted ks [] = ap offers_of (sym (append-nil ks))
offers-counted ks (m ∷ ms) = rw (offer-counted ks m) (offers-counted (ks ++ (m ∷ [])) ms ∙ ap offers_of (append_assoc ks (m ∷ []) ms))
