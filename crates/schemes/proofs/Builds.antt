-- Sets by the places at which a test holds: one place more, and the common set and the marks as such sets.
-- Assumes nothing.
use Prim.Native.Nat.{ℕ, zero, suc, ◌+◌, ◌*◌, ◌/◌, ◌-◌, ◌^◌, ◌<◌}
use mathlib.Core.Path.{◌≡◌, refl, sym, ap, ◌∙◌}
use mathlib.Core.Bool.{Bool, true, false, cond}
use mathlib.Core.List.{List, [], ◌∷◌, ◌++◌}
use native.Mathlib.Nat.{pow-suc, add-zero, zero-add, add-sub_cancel_left}
use native.Mathlib.Numerals.{add-one}
use native.Mathlib.Omega.{arith}
use lib.ListN.{length, get_or, take, drop}
use Rattle.message.specs.Show.{ids_at, ids_of}
use Rattle.message.proofs.Ids.{id-at}
use Rattle.schemes.specs.Lists.{mem}
use Rattle.schemes.specs.Sets.{set_of}
use Rattle.schemes.specs.Answers.{places_from, with_bit}
use Rattle.schemes.proofs.Digits.{bit-beyond}
use Rattle.schemes.proofs.Places.{set-bound, length-places}

set-snoc : {A : Type 0} (p : A → Bool) (l : List A) (x : A) → set_of p (l ++ (x ∷ [])) ≡ set_of p l + cond (p x) (2 ^ length l) 0
unfolding set_of
set-snoc p [] x = omega arith
set-snoc p (y ∷ l) x =
    let w : 2 ^ suc (length l) ≡ 2 ^ length l * 2 = pow-suc 2 (length l) in
    rw (set-snoc p l x) (go (p x) w)
  where
    go : (b : Bool) → 2 ^ suc (length l) ≡ 2 ^ length l * 2
        → cond (p y) 1 0 + 2 * (set_of p l + cond b (2 ^ length l) 0) ≡ cond (p y) 1 0 + 2 * set_of p l + cond b (2 ^ suc (length l)) 0
    go true w = omega arith
    go false w = omega arith

places-snoc : (j n : ℕ) → places_from j (suc n) ≡ places_from j n ++ ((j + n) ∷ [])
unfolding places_from
places-snoc j zero = rw (add-zero j) refl
places-snoc j (suc n) =
    let e : suc j + n ≡ j + suc n = omega arith in
    ap (λ (l : List ℕ). j ∷ l) (rw e at (places-snoc (suc j) n))

-- ---- one place more, in the words of the code
module _ (p : ℕ → Bool) where
  pub where-start : 0 ≡ set_of p (places_from 0 0)
  unfolding set_of places_from
  where-start = refl

  module _ (k set : ℕ) (inv : set ≡ set_of p (places_from 0 k)) where
    more : set_of p (places_from 0 (k + 1)) ≡ set + cond (p k) (2 ^ k) 0
    more = rw (add-one, places-snoc 0 k, zero-add k, set-snoc, length-places, ← inv) refl

    pub where-hit : true ≡ p k → with_bit set k ≡ set_of p (places_from 0 (k + 1))
    unfolding with_bit
    where-hit e =
        let h : set < 2 ^ k = rw (← inv, length-places) at (set-bound p (places_from 0 k)) in
        rw (← bit-beyond set k h) (sym (more ∙ rw (← e)))

    pub where-miss : false ≡ p k → set ≡ set_of p (places_from 0 (k + 1))
    where-miss e = sym (more ∙ rw (← e) (add-zero set))

-- ---- a set of a list, by its places
module _ {A : Type 0} (p : A → Bool) (d : A) where
  split : (x : A) (l s : List A) (j : ℕ) → drop j s ≡ x ∷ l → (get_or s j d ≡ x) × (drop (suc j) s ≡ l)
  split x l [] zero f = let z : ◌≡◌ {A = ℕ} 0 1 = cc in absurd (omega arith)
  split x l [] (suc j) f = let z : ◌≡◌ {A = ℕ} 0 1 = cc in absurd (omega arith)
  split x l (y ∷ s) zero f = (cc, cc)
  split x l (y ∷ s) (suc j) f = split x l s j f

  set-from : (s : List A) (j : ℕ) (l : List A) → drop j s ≡ l → set_of (λ k. p (get_or s k d)) (places_from j (length l)) ≡ set_of p l
  unfolding set_of places_from
  set-from s j [] e = refl
  set-from s j (x ∷ l) e = let (u, v) = split x l s j e in rw (u, set-from s (suc j) l v)

  pub set-at : (l : List A) (n : ℕ) → n ≡ length l → set_of (λ k. p (get_or l k d)) (places_from 0 n) ≡ set_of p l
  set-at l n e = rw e (set-from l 0 l refl)

-- whether the peer lists the own scheme at a place, in the words of the code
pub listed-at : (own peer : List ℕ) (n k : ℕ) → k < n → (b : Bool)
    → b ≡ mem (take (k * 16 + 16 - k * 16) (drop (k * 16) own)) (ids_at (length peer / 16) peer)
    → b ≡ mem (get_or (ids_at n own) k []) (ids_of peer)
listed-at own peer n k low b e =
    let m : 16 * k ≡ k * 16 = omega arith in
    e ∙ rw (add-sub_cancel_left, id-at n own k low, m) refl
