-- The sets say what rule 2 says: what the acceptor writes, and what the initiator has left of it.
-- Assumes nothing.
use Prim.Native.Nat.{ℕ, suc, ◌+◌, ◌*◌, ◌-◌, ◌/◌, ◌%◌, ◌<◌}
use mathlib.Core.Path.{◌≡◌, refl, sym, ap, ◌∙◌}
use mathlib.Core.Bool.{true, false, not, ◌&&◌, ◌||◌}
use mathlib.Core.Logic.{inl, inr}
use mathlib.Core.List.{List, [], ◌∷◌, ◌++◌, map, append_assoc, append-nil}
use native.Mathlib.Omega.{arith}
use lib.ListN.{length, get_or, replicate}
use lib.Dec.{eqb}
use borrow.Author.Tests.{eq-eqb, ne_eqb, lt-ltb}
use Rattle.octets.proofs.Bools.{which, no_true, and_l, and_r}
use Rattle.octets.specs.Octets.{same_octets}
use Rattle.octets.proofs.Same.{same_refl, same-eq}
use Rattle.schemes.specs.Lists.{Id, mem, place, distinct, keep, bit, marked, left_over, reply_of}
use Rattle.schemes.specs.Sets.{set_of, common_set, left, has, noted, mentions, kept_places, ones, open_places, named, left_in, AcceptorLeft, InitiatorLeft}
use Rattle.schemes.proofs.Choice.{mem-head, mem-tail, keep-ext, keep-keep, keep-distinct, mem-keep, not-mem-same, place-inj}

even-bit : (n : ℕ) → (bit (0 + 2 * n) 0 ≡ false) × ((0 + 2 * n) / 2 ≡ n)
even-bit n = (ne_eqb ((0 + 2 * n) % 2) 1 (λ e. omega arith), omega arith)

pub odd-bit : (n : ℕ) → (bit (1 + 2 * n) 0 ≡ true) × ((1 + 2 * n) / 2 ≡ n)
odd-bit n = (eq-eqb ((1 + 2 * n) % 2) 1 (omega arith), omega arith)

-- the acceptor: the common schemes less its marks, in its own order
pub left-keep : AcceptorLeft
unfolding left set_of distinct place
left-keep [] peer m d = refl
left-keep (x ∷ l) peer m d =
    let n : not (mem x l) ≡ true = and_l (not (mem x l)) (distinct l) d in
    let i : left l (common_set l peer) (m / 2) ≡ keep (λ s. mem s peer && not (marked l (m / 2) s)) l =
    left-keep l peer (m / 2) (and_r (not (mem x l)) (distinct l) d) in
    let j : keep (λ s. mem s peer && not (marked (x ∷ l) m s)) l ≡ keep (λ s. mem s peer && not (marked l (m / 2) s)) l =
    keep-ext (λ s. mem s peer && not (marked (x ∷ l) m s)) (λ s. mem s peer && not (marked l (m / 2) s)) l (λ s h. rw (not-mem-same s x l h n)) in
    let c : ℕ = common_set l peer in
    elim (which (mem x peer)) [
      | inl e ↦ rw (e, (odd-bit c).0, (odd-bit c).1, same_refl x, j, i)
      | inr e ↦ rw (e, (even-bit c).0, (even-bit c).1, j, i)
    ]

pub place-below : (l : List Id) (s : Id) → mem s l ≡ true → place l s < length l
unfolding mem place
place-below [] s m = no_true m
place-below (x ∷ l) s m = elim (which (same_octets s x)) [
  | inl e ↦ rw e (omega arith)
  | inr e ↦ rw e (let i = place-below l s (rw e at m) in omega arith)
]

pub get_or-place : (own : List Id) (s : Id) → mem s own ≡ true → get_or own (place own s) [] ≡ s
unfolding mem place
get_or-place [] s m = no_true m
get_or-place (x ∷ l) s m = elim (which (same_octets s x)) [
  | inl e ↦ rw e (sym (same-eq s x e))
  | inr e ↦ rw e (get_or-place l s (rw e at m))
]

-- places of different own schemes are all noted, in order
pub has-append : (p : ℕ) (ps qs : List ℕ) → has p (ps ++ qs) ≡ has p ps || has p qs
unfolding has
has-append p [] qs = refl
has-append p (q ∷ ps) qs = elim (which (eqb p q)) [ inl e ↦ rw e | inr e ↦ rw e (has-append p ps qs) ]

fresh-place : (own l : List Id) (x : Id) → ((s : Id) → mem s (x ∷ l) ≡ true → mem s own ≡ true) → not (mem x l) ≡ true → (s : Id) → mem s l ≡ true
    → eqb (place own s) (place own x) ≡ false
fresh-place own l x h n s m =
    ne_eqb (place own s) (place own x)
    (λ e. let q : s ≡ x = place-inj own s x (h s (mem-tail s x l m)) (h x (mem-head x l)) e in
    no_true (let k : mem x l ≡ true = rw q at m in rw k at n))

pub mentions-all : (own l : List Id) (ps : List ℕ) → distinct l ≡ true → ((s : Id) → mem s l ≡ true → mem s own ≡ true)
    → ((s : Id) → mem s l ≡ true → has (place own s) ps ≡ false) → mentions own l ps ≡ ps ++ map (place own) l
unfolding mentions distinct has
mentions-all own [] ps d h f = sym (append-nil ps)
mentions-all own (x ∷ l) ps d h f =
    let n : not (mem x l) ≡ true = and_l (not (mem x l)) (distinct l) d in
    let p : ℕ = place own x in
    let new : noted (length own) p ps ≡ ps ++ (p ∷ []) =
    rw (lt-ltb p (length own) (place-below own x (h x (mem-head x l))), f x (mem-head x l)) in
    let g : (s : Id) → mem s l ≡ true → has (place own s) (ps ++ (p ∷ [])) ≡ false =
    λ s m. has-append (place own s) ps (p ∷ []) ∙ rw (f s (mem-tail s x l m), fresh-place own l x h n s m) in
    rw new
    (mentions-all own l (ps ++ (p ∷ [])) (and_r (not (mem x l)) (distinct l) d) (λ s m. h s (mem-tail s x l m)) g
    ∙ append_assoc ps (p ∷ []) (map (place own) l))

-- what is open of kept places, with anything behind them whose bit is not set
pub open_none : (ks : List ℕ) (m : ℕ) → open_places ks 0 m ≡ []
unfolding open_places
open_none [] m = refl
open_none (k ∷ ks) m = open_none ks m

pub open-names : (own l : List Id) (zs : List ℕ) (m : ℕ) → ((s : Id) → mem s l ≡ true → mem s own ≡ true)
    → named own (open_places (map (place own) l ++ zs) (ones (length l)) m) ≡ keep (λ s. not (marked own m s)) l
unfolding open_places ones
open-names own [] zs m h = rw (open_none zs m)
open-names own (x ∷ l) zs m h =
    let i : named own (open_places (map (place own) l ++ zs) (ones (length l)) m) ≡ keep (λ s. not (marked own m s)) l =
    open-names own l zs m (λ s e. h s (mem-tail s x l e)) in
    let c : ℕ = ones (length l) in
    elim (which (bit m (place own x))) [
      | inl e ↦ rw ((odd-bit c).0, (odd-bit c).1, e) i
      | inr e ↦ rw ((odd-bit c).0, (odd-bit c).1, e) (rw (get_or-place own x (h x (mem-head x l)), i))
    ]

length-map-place : (own l : List Id) → length (map (place own) l) ≡ length l
length-map-place own [] = refl
length-map-place own (x ∷ l) = ap suc (length-map-place own l)

-- what the initiator has left of such a reply is what rule 2 has left
module _ (acc ini : List Id) (ma : ℕ) (d : distinct acc ≡ true) where
  in-ini : (s : Id) → mem s (reply_of acc ini ma) ≡ true → mem s ini ≡ true
  in-ini s m = and_l (mem s ini) (not (marked acc ma s)) (mem-keep (λ s. mem s ini && not (marked acc ma s)) acc s m).0

  kept-reply : kept_places ini (reply_of acc ini ma) ≡ map (place ini) (reply_of acc ini ma)
  unfolding has
  kept-reply = mentions-all ini (reply_of acc ini ma) [] (keep-distinct (λ s. mem s ini && not (marked acc ma s)) acc d) in-ini (λ s m. refl)

  left-then : (mi : ℕ) → left_in ini (reply_of acc ini ma) mi ≡ left_over acc ini ma mi
  left-then mi =
      rw (kept-reply, length-map-place ini (reply_of acc ini ma))
      (open-names ini (reply_of acc ini ma) (replicate (16 - length (reply_of acc ini ma)) 0) mi in-ini
      ∙ keep-keep (λ s. not (marked ini mi s)) (λ s. mem s ini && not (marked acc ma s)) acc)

pub left-of-reply : InitiatorLeft
left-of-reply acc ini ma d mi = left-then acc ini ma d mi
