-- The kept places: a search among places, their number, and one turn of the loop over the peer's ids, in the words of the code.
-- Assumes nothing.
use Prim.Native.Nat.{ℕ, zero, suc, ◌+◌, ◌*◌, ◌-◌, ◌≤◌, ◌<◌}
use mathlib.Core.Path.{◌≡◌, refl, sym, ap, ◌∙◌}
use mathlib.Core.Bool.{Bool, true, false, cond, not, ◌&&◌, ◌||◌}
use mathlib.Core.Logic.{inl, inr}
use mathlib.Core.List.{List, [], ◌∷◌, ◌++◌}
use native.Mathlib.Omega.{arith}
use lib.ListN.{length, set, take, drop, replicate, length-append, length-take}
use lib.Seq.{drop-drop, take-append_seam}
use lib.Arith.{lt_of_le-ne}
use lib.Dec.{eqb, ltb}
use borrow.Author.Tests.{eq-eqb, ne_eqb, lt-ltb, eqb-true, eqb-false, ltb-true}
use Rattle.octets.proofs.Bools.{which}
use Rattle.std.specs.List.{list_any}
use Rattle.octets.specs.Octets.{octets}
use Rattle.message.specs.Show.{ids_at}
use Rattle.schemes.specs.declared.Kept.{Kept}
use Rattle.schemes.specs.Lists.{Id, place}
use Rattle.schemes.specs.Sets.{has, noted, mentions, kept_places, pad_to}
use Rattle.schemes.specs.Answers.{kept_of, places_in, Noting}
use Rattle.schemes.proofs.Pads.{pad-more}
use Rattle.schemes.proofs.Replies.{has-append}

-- ---- a place among places, as std finds it
eqb-flip : (a b : ℕ) → eqb a b ≡ eqb b a
eqb-flip a b = elim (which (eqb a b)) [
  | inl e ↦ e ∙ sym (eq-eqb b a (sym (eqb-true a b e)))
  | inr e ↦ e ∙ sym (ne_eqb b a (λ f. eqb-false a b e (sym f)))
]

pub any-has : (p : ℕ) (ps : List ℕ) → list_any (λ q. eqb q p) ps ≡ has p ps
unfolding has
any-has p [] = refl
any-has p (q ∷ ps) = rw (eqb-flip q p, any-has p ps) refl

-- ---- one place more at the end
or-false : (b : Bool) → (b || false) ≡ b
or-false true = refl
or-false false = refl

pub has-snoc : (x p : ℕ) (ps : List ℕ) → has x (ps ++ (p ∷ [])) ≡ (has x ps || eqb x p)
unfolding has
has-snoc x p ps = has-append x ps (p ∷ []) ∙ rw (or-false (eqb x p))

-- ---- how many of n places are not among ps
abbrev free : ℕ → List ℕ → ℕ
free zero ps = 0
free (suc n) ps = cond (has n ps) 0 1 + free n ps

free-same : (n p : ℕ) (ps : List ℕ) → n ≤ p → free n (ps ++ (p ∷ [])) ≡ free n ps
free-same zero p ps h = refl
free-same (suc n) p ps h =
    let e : eqb n p ≡ false = ne_eqb n p (λ f. omega arith) in
    simp (has-snoc n p ps, e, or-false, free-same n p ps (omega arith))

free-less : (n p : ℕ) (ps : List ℕ) → p < n → has p ps ≡ false → free n ps ≡ suc (free n (ps ++ (p ∷ [])))
free-less zero p ps h f = absurd (omega arith)
free-less (suc n) p ps h f = go (eqb n p) refl (λ l. free-less n p ps l f) where
  go : (t : Bool) → eqb n p ≡ t → (p < n → free n ps ≡ suc (free n (ps ++ (p ∷ [])))) → free (suc n) ps ≡ suc (free (suc n) (ps ++ (p ∷ [])))
  go true e r =
      let q : n ≡ p = eqb-true n p e in
      let g : has n ps ≡ false = rw q f in
      simp (has-snoc n p ps, g, e, free-same n p ps (omega arith)) (omega arith)
  go false e r =
      let l : p < n = lt_of_le-ne (omega arith) (λ z. eqb-false n p e (sym z)) in
      simp (has-snoc n p ps, e, or-false, r l) (omega arith)

-- every one of n places is among ps or free, so ps has no more than n
abbrev Sized : ℕ → List ℕ → Type 0
Sized n ps = length ps + free n ps ≡ n

noted-sized : (n p : ℕ) (ps : List ℕ) → Sized n ps → Sized n (noted n p ps)
noted-sized n p ps s = go (ltb p n) (has p ps) refl refl where
  go : (t u : Bool) → ltb p n ≡ t → has p ps ≡ u → Sized n (cond (t && not u) (ps ++ (p ∷ [])) ps)
  go false u e f = s
  go true true e f = s
  go true false e f = simp length-append (omega (arith, free-less n p ps (ltb-true p n e) f))

mentions-sized : (own ys : List Id) (ps : List ℕ) → Sized (length own) ps → Sized (length own) (mentions own ys ps)
unfolding mentions
mentions-sized own [] ps s = s
mentions-sized own (y ∷ ys) ps s = mentions-sized own ys (noted (length own) (place own y) ps) (noted-sized (length own) (place own y) ps s)

free-none : (n : ℕ) → free n [] ≡ n
unfolding has
free-none zero = refl
free-none (suc n) = rw (free-none n) (omega arith)

kept-sized : (own reply : List Id) → Sized (length own) (kept_places own reply)
kept-sized own reply = mentions-sized own reply [] (omega (arith, free-none (length own)))

-- an end keeps no more places than it has
pub kept-few : (own reply : List Id) → length (kept_places own reply) ≤ length own
kept-few own reply = omega (arith, kept-sized own reply)

-- ---- one id more
pub ids-snoc : (j : ℕ) (s : List ℕ) → ids_at (suc j) s ≡ ids_at j s ++ (octets 16 s (j * 16) ∷ [])
unfolding ids_at
ids-snoc zero s = refl
ids-snoc (suc j) s =
    let e : 16 + j * 16 ≡ suc j * 16 = omega arith in
    ap (λ (l : List Id). take 16 s ∷ l) (ids-snoc j (drop 16 s) ∙ simp (drop-drop, e))

-- ---- the places as the record keeps them
pub in_kept : (ps : List ℕ) → places_in (kept_of ps) ≡ ps
unfolding kept_of
in_kept ps = take-append_seam ps (replicate (16 - length ps) 0)

-- what notes a place, in the words of the code
module _ (k : Kept) (p n : ℕ) (pre : Noting k p n) where
  pub counted : k.count ≡ length (places_in k)
  unfolding kept_of
  counted = ap (λ (x : Kept). x.count) pre.whole

  padded : k.places ≡ pad_to 16 (places_in k)
  unfolding kept_of
  padded = ap (λ (x : Kept). x.places) pre.whole

  pub note-inside : k.count ≤ length k.places
  note-inside = omega (arith, counted, length-take k.count k.places)

  module _ (low : p < n) (b : Bool) (b-is : b ≡ has p (places_in k)) where
    pub note-known : b ≡ true → k ≡ kept_of (noted n p (places_in k))
    note-known t = pre.whole ∙ rw (lt-ltb p n low, ← b-is, t)

    pub note-room : b ≡ false → k.count < 16
    note-room t = pre.room low (sym b-is ∙ t)

    pub note-new : b ≡ false
        → ◌≡◌ {A = Kept} (record { places = set k.places k.count p; count = k.count + 1 }) (kept_of (noted n p (places_in k)))
    unfolding kept_of
    note-new t =
        let ps : List ℕ = places_in k in
        let a : set k.places k.count p ≡ pad_to 16 (ps ++ (p ∷ [])) =
        ap (λ (l : List ℕ). set l k.count p) padded ∙ pad-more 16 ps p k.count (sym counted) (note-room t) in
        let e : k.count + 1 ≡ length (ps ++ (p ∷ [])) = simp length-append (omega (arith, counted)) in
        rw (lt-ltb p n low, ← b-is, t, a, e)

-- ---- the loop over the peer's ids: of the ids `all`, those of `left` are not noted yet
pub record Keeping (own all left : List Id) (k : Kept) : Type 0 where
  pub whole : k ≡ kept_of (places_in k)
  pub sized : Sized (length own) (places_in k)
  pub left_to : kept_places own all ≡ mentions own left (places_in k)

module _ (own all : List Id) where
  pub keeping-start : Keeping own all all (record { places = replicate 16 0; count = 0 })
  unfolding kept_of
  keeping-start = record { whole = refl; sized = omega (arith, free-none (length own)); left_to = refl }

  module _ (k : Kept) where
    pub keeping-noting : (left : List Id) → Keeping own all left k → length own ≤ 16 → (p : ℕ) → Noting k p (length own)
    unfolding kept_of
    keeping-noting left e few p = record {
      few = few;
      whole = e.whole;
      room = λ low new.
          let c : k.count ≡ length (places_in k) = ap (λ (x : Kept). x.count) e.whole in
          omega (arith, e.sized, free-less (length own) p (places_in k) low new);
    }

    pub keeping-turn : (x : Id) (left : List Id) → Keeping own all (x ∷ left) k → (r : Kept)
        → r ≡ kept_of (noted (length own) (place own x) (places_in k)) → Keeping own all left r
    unfolding mentions
    keeping-turn x left e r r-is =
        let i : places_in r ≡ noted (length own) (place own x) (places_in k) = rw r-is (in_kept (noted (length own) (place own x) (places_in k))) in
        record {
          whole = r-is ∙ ap kept_of (sym i);
          sized = rw i (noted-sized (length own) (place own x) (places_in k) e.sized);
          left_to = e.left_to ∙ ap (mentions own left) (sym i);
        }

    pub keeping-end : Keeping own all [] k → k ≡ kept_of (kept_places own all)
    unfolding mentions
    keeping-end e = e.whole ∙ ap kept_of (sym e.left_to)
