-- The ids of a list, as its chunks of 16 octets.
-- Assumes nothing.
use Prim.Native.Nat.{ℕ, zero, suc, ◌+◌, ◌*◌, ◌/◌, ◌≤◌, ◌<◌}
use mathlib.Core.Path.{◌≡◌, refl, ap, ◌∙◌, subst}
use mathlib.Core.Bool.{Bool, true, false, cond, not}
use mathlib.Core.Logic.{inl, inr}
use mathlib.Core.List.{List, [], ◌∷◌, ◌++◌}
use native.Mathlib.Omega.{arith}
use lib.ListN.{length, take, drop, length-take, length-drop, length-append}
use lib.Seq.{take_at, drop_at, take-add}
use lib.Dec.{ltb}
use denote.Bor.{Bor}
use borrow.Author.Tests.{ltb-false}
use Rattle.std.specs.Prelude.{Option, Some, None, unwrap_or}
use Rattle.std.specs.List.{position_or_len}
use Rattle.std.specs.declared.slice.ChunksExact.{ChunksExact}
use Rattle.std.specs.Slice.Iter.{chunks_exact_rest, chunks_exact_size, chunks_exact_steps}
use Rattle.std.proofs.lemmas.Iterator.{YieldsList}
use Rattle.std.proofs.lemmas.Iterator.Splits.{YieldsList-from_shown_while}
use Rattle.octets.proofs.Bools.{which}
use Rattle.octets.specs.Octets.{same_octets, same_id}
use Rattle.message.specs.Show.{ids_at, ids_of}
use Rattle.message.proofs.Ids.{length_ids}
use Rattle.schemes.specs.Lists.{Id, place}
use Rattle.schemes.proofs.Ids.{same-as}

-- ---- one chunk
pub chunk-first : (x rest : List ℕ) → length x ≡ 16 → ids_of (x ++ rest) ≡ x ∷ ids_of rest
unfolding ids_at
chunk-first x rest h =
    let e : length (x ++ rest) / 16 ≡ suc (length rest / 16) = (let l : length (x ++ rest) ≡ length x + length rest = length-append x rest in omega arith) in
    rw (e, take_at x rest 16 h, drop_at x rest 16 h) refl

pub chunk-none : (rest : List ℕ) → length rest < 16 → ids_of rest ≡ []
unfolding ids_at
chunk-none rest h = let e : length rest / 16 ≡ 0 = omega arith in rw e refl

-- ---- all chunks
pub ids-yielded : (s : ChunksExact ℕ) → chunks_exact_size s ≡ 16 → YieldsList (chunks_exact_steps {A = ℕ}) (λ x. x.now) s (ids_of (chunks_exact_rest s))
ids-yielded s h =
    YieldsList-from_shown_while _ _ (λ (s : ChunksExact ℕ). ids_of (chunks_exact_rest s)) (λ (s : ChunksExact ℕ). chunks_exact_size s ≡ 16) none some s h
  where
    none : (s t : ChunksExact ℕ) → chunks_exact_size s ≡ 16 → chunks_exact_steps s None t → length (ids_of (chunks_exact_rest s)) ≡ 0
    none s t h e = rw (chunk-none (chunks_exact_rest s) (omega arith)) refl

    some : (s : ChunksExact ℕ) (x : Bor (List ℕ)) (t : ChunksExact ℕ) → chunks_exact_size s ≡ 16 → chunks_exact_steps s (Some x) t
        → (chunks_exact_size t ≡ 16) × (ids_of (chunks_exact_rest s) ≡ x.now ∷ ids_of (chunks_exact_rest t))
    some s x t h e = (e.0 ∙ h, ap ids_of e.1.0 ∙ chunk-first x.now (chunks_exact_rest t) (e.1.1 ∙ h))

-- the n ids of a list are the chunks of its first 16 * n octets
ids-front : (n : ℕ) (s : List ℕ) → n * 16 ≤ length s → ids_at n (take (n * 16) s) ≡ ids_at n s
unfolding ids_at
ids-front zero s h = refl
ids-front (suc n) s h =
    let e : suc n * 16 ≡ 16 + n * 16 = omega arith in
    let f : length (take 16 s) ≡ 16 = simp length-take (omega arith) in
    let i : ids_at n (take (n * 16) (drop 16 s)) ≡ ids_at n (drop 16 s) = ids-front n (drop 16 s) (simp length-drop (omega arith)) in
    rw (e, take-add 16 (n * 16) s, take_at (take 16 s) (take (n * 16) (drop 16 s)) 16 f, drop_at (take 16 s) (take (n * 16) (drop 16 s)) 16 f, i) refl

-- ---- the place of the first id that is the one looked for
same-place : (id : List ℕ) (n : ℕ) (s : List ℕ) → n * 16 ≤ length s → position_or_len (same_id id) (ids_at n s) ≡ place (ids_at n s) id
unfolding ids_at place
same-place id zero s h = refl
same-place id (suc n) s h =
    let e : same_id id (take 16 s) ≡ same_octets id (take 16 s) = same-as id (take 16 s) (simp length-take (omega arith)) in
    rw e (go (same_octets id (take 16 s)) (same-place id n (drop 16 s) (simp length-drop (omega arith))))
  where
    go : (b : Bool) → position_or_len (same_id id) (ids_at n (drop 16 s)) ≡ place (ids_at n (drop 16 s)) id
        → cond (not b) (1 + position_or_len (same_id id) (ids_at n (drop 16 s))) 0 ≡ cond b 0 (suc (place (ids_at n (drop 16 s)) id))
    go true e = refl
    go false e = rw e (omega arith)

place-most : (l : List Id) (id : List ℕ) → place l id ≤ length l
unfolding place
place-most [] id = omega arith
place-most (x ∷ l) id = go (same_octets id x) (place-most l id) where
  go : (b : Bool) → place l id ≤ length l → cond b 0 (suc (place l id)) ≤ suc (length l)
  go true h = omega arith
  go false h = omega arith

or-length : (p n : ℕ) → p ≤ n → unwrap_or (cond (ltb p n) (Some p) None) n ≡ p
or-length p n h = elim (which (ltb p n)) [ inl e ↦ rw e refl | inr e ↦ rw e (omega (arith, ltb-false p n e)) ]

-- the answer of a search through the chunks
pub found-place : (id : List ℕ) (n : ℕ) (s : List ℕ) → n * 16 ≤ length s → (r : Option ℕ)
    → r ≡ cond (ltb (position_or_len (same_id id) (ids_at n s)) (length (ids_at n s))) (Some (position_or_len (same_id id) (ids_at n s))) None
    → unwrap_or r n ≡ place (ids_at n s) id
found-place id n s h r r-is =
    let m : place (ids_at n s) id ≤ n = omega (arith, place-most (ids_at n s) id, length_ids n s) in
    rw (r-is, same-place id n s h, length_ids) (or-length (place (ids_at n s) id) n m)

pub front-yielded : (n : ℕ) (s : List ℕ) → n * 16 ≤ length s → (c : ChunksExact ℕ) → chunks_exact_rest c ≡ take (n * 16) s → chunks_exact_size c ≡ 16
    → YieldsList (chunks_exact_steps {A = ℕ}) (λ x. x.now) c (ids_at n s)
front-yielded n s h c r z =
    let l : length (take (n * 16) s) / 16 ≡ n = (let k : length (take (n * 16) s) ≡ n * 16 = simp length-take (omega arith) in omega arith) in
    let e : ids_of (chunks_exact_rest c) ≡ ids_at n s = rw (r, l) (ids-front n s h) in
    subst (λ (x : List Id). YieldsList (chunks_exact_steps {A = ℕ}) (λ y. y.now) c x) e (ids-yielded c z)
