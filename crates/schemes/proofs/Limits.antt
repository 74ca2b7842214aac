-- The kept places inside the own list: one turn of the test, in the words of the code, and what runs keep.
-- Assumes nothing.
use Prim.Native.Nat.{ℕ, suc, ◌+◌, ◌*◌, ◌/◌, ◌^◌, ◌<◌}
use mathlib.Core.Path.{◌≡◌, refl, sym}
use mathlib.Core.Bool.{Bool, true, false, cond, not, ◌&&◌, ◌||◌}
use mathlib.Core.List.{List, [], ◌∷◌, ◌++◌}
use native.Mathlib.Nat.{pow-suc}
use native.Mathlib.Omega.{arith}
use lib.ListN.{length, get_or}
use lib.Dec.{ltb}
use lib.Pow.{shr-shr}
use Rattle.std.specs.List.{list_all, enumerate_from}
use Rattle.schemes.proofs.Digits.{bit-shift}
use borrow.Author.Tests.{lt-ltb, ltb-true}
use Rattle.octets.proofs.Bools.{both}
use Rattle.schemes.specs.Lists.{Id, place, bit}
use Rattle.schemes.specs.Sets.{has, noted, mentions, kept_places, open_places, kept_below, pad_to}
use Rattle.schemes.specs.Answers.{left_of}

-- the test of each place, beside its number
pub kept-all : (n j c : ℕ) (ks : List ℕ) → list_all (λ (p : ℕ × ℕ). not (bit c p.0) || ltb p.1 n) (enumerate_from j ks) ≡ kept_below n ks (c / 2 ^ j)
unfolding kept_below
kept-all n j c [] = refl
kept-all n j c (k ∷ ks) =
    let b : bit (c / 2 ^ j) 0 ≡ bit c j = bit-shift c j in
    let h : c / 2 ^ (j + 1) ≡ c / 2 ^ j / 2 = sym (shr-shr c j 1) in
    rw (b, ← h, ← kept-all n (j + 1) c ks) refl

-- ---- for callers: the places that an end keeps lie inside its list
abbrev pub AllBelow : ℕ → List ℕ → Type 0
AllBelow n [] = Unit {0}
AllBelow n (p ∷ ps) = (p < n) × AllBelow n ps

all_snoc : (n : ℕ) (ps : List ℕ) (p : ℕ) → AllBelow n ps → p < n → AllBelow n (ps ++ (p ∷ []))
all_snoc n [] p a h = (h, tt)
all_snoc n (q ∷ ps) p a h = (a.0, all_snoc n ps p a.1 h)

noted-below : (n p : ℕ) (ps : List ℕ) → AllBelow n ps → AllBelow n (noted n p ps)
noted-below n p ps a = go (ltb p n) (has p ps) refl where
  go : (t u : Bool) → ltb p n ≡ t → AllBelow n (cond (t && not u) (ps ++ (p ∷ [])) ps)
  go false u e = a
  go true true e = a
  go true false e = all_snoc n ps p a (ltb-true p n e)

mentions-below : (own ys : List Id) (ps : List ℕ) → AllBelow (length own) ps → AllBelow (length own) (mentions own ys ps)
unfolding mentions
mentions-below own [] ps a = a
mentions-below own (y ∷ ys) ps a = mentions-below own ys (noted (length own) (place own y) ps) (noted-below (length own) (place own y) ps a)

none-asked : (n : ℕ) (zs : List ℕ) → kept_below n zs 0 ≡ true
unfolding kept_below
none-asked n [] = refl
none-asked n (z ∷ zs) = none-asked n zs

all-kept : (n : ℕ) (ks zs : List ℕ) (c : ℕ) → AllBelow n ks → c < 2 ^ length ks → kept_below n (ks ++ zs) c ≡ true
unfolding kept_below
all-kept n [] zs c a h = let e : c ≡ 0 = omega arith in rw e (none-asked n zs)
all-kept n (k ∷ ks) zs c a h =
    let p : 2 ^ suc (length ks) ≡ 2 ^ length ks * 2 = pow-suc 2 (length ks) in
    rw (lt-ltb k n a.0) (go (not (bit c 0)) (all-kept n ks zs (c / 2) a.1 (omega arith)))
  where
    go : (b : Bool) → kept_below n (ks ++ zs) (c / 2) ≡ true → (b || true) && kept_below n (ks ++ zs) (c / 2) ≡ true
    go true e = e
    go false e = e

pub kept-below : (own reply : List Id) (c : ℕ) → c < 2 ^ length (kept_places own reply)
    → kept_below (length own) (pad_to 16 (kept_places own reply)) c ≡ true
kept-below own reply c h = all-kept (length own) (kept_places own reply) _ c (mentions-below own reply [] tt) h

-- ---- for callers: a place that is chosen lies inside the list
pub open-below : (n : ℕ) (ks : List ℕ) (c m : ℕ) → kept_below n ks c ≡ true → ((left_of (open_places ks c m)).left ≡ 0 → ⊥)
    → (left_of (open_places ks c m)).place < n
unfolding kept_below open_places left_of
open-below n [] c m h g = absurd (g refl)
open-below n (k ∷ ks) c m h g =
    let (u, v) = both (not (bit c 0) || ltb k n) (kept_below n ks (c / 2)) h in
    go (bit c 0) (bit m k) u (open-below n ks (c / 2) m v) g
  where
    go : (x y : Bool) → (not x || ltb k n) ≡ true → ((length (open_places ks (c / 2) m) ≡ 0 → ⊥) → get_or (open_places ks (c / 2) m) 0 0 < n)
        → (length (cond (x && not y) (k ∷ open_places ks (c / 2) m) (open_places ks (c / 2) m)) ≡ 0 → ⊥)
        → get_or (cond (x && not y) (k ∷ open_places ks (c / 2) m) (open_places ks (c / 2) m)) 0 0 < n
    go true true u i f = i f
    go true false u i f = ltb-true k n u
    go false y u i f = i f
