-- Laws of `put`, and fields put one behind the other.
-- Assumes nothing.
use mathlib.Core.Path.{◌≡◌, refl, sym, ap, ◌∙◌}
use mathlib.Core.List.{List, [], ◌∷◌, ◌++◌, append_assoc, append-nil}
use Prim.Native.Nat.{ℕ, ◌+◌, ◌≤◌}
use native.Mathlib.Nat.{add-zero, add_assoc}
use native.Mathlib.Omega.{arith}
use lib.ListN.{length, drop, take, length-append, length-drop, take-append-drop}
use lib.Seq.{drop-drop, drop_at, take_at, length-take-le, paste, take-length}
use Rattle.put.specs.Put.{put, octets_of, joined, Written}

pub put-none : (d : List ℕ) (at : ℕ) → put d at [] ≡ d
unfolding put
put-none d at = simp (add-zero, append-nil, take-append-drop)

pub length-put : (d : List ℕ) (at : ℕ) (v : List ℕ) → at + length v ≤ length d → length (put d at v) ≡ length d
unfolding put
length-put d at v h = simp (length-append, length-drop, length-take-le at d (omega arith)) (omega arith)

-- octets put behind octets that were put
pub put-more : (d : List ℕ) (at : ℕ) (v w : List ℕ) → at + length v + length w ≤ length d
    → put (put d at v) (at + length v) w ≡ put d at (v ++ w)
unfolding put
put-more d at v w h =
    let e : length (take at d ++ v) ≡ at + length v = simp (length-append, length-take-le at d (omega arith)) in
    let n = at + length v in
    let r : drop (n + length w) (put d at v) ≡ drop (n + length w) d =
    sym (drop-drop (length w) n (put d at v)) ∙ ap (drop (length w)) (drop_at (take at d ++ v) (drop n d) n e) ∙ drop-drop (length w) n d in
    rw (take_at (take at d ++ v) (drop n d) n e, r) (simp (append_assoc, length-append, add_assoc))

pub joined-append : (xs ys : List (List ℕ)) → joined (xs ++ ys) ≡ joined xs ++ joined ys
joined-append [] ys = refl
joined-append (x ∷ xs) ys = rw (joined-append xs ys) (sym (append_assoc x (joined xs) (joined ys)))

-- Fields put one behind the other, each by the contract of its writer; `group`: several of them by one writer.
pub data Wrote : List ℕ → ℕ → List (List ℕ) → List ℕ → ℕ → Type 0 where
  done : {d : List ℕ} {at : ℕ} → Wrote d at [] d at
  step : {d d1 d2 v : List ℕ} {vs : List (List ℕ)} {at n a1 a2 : ℕ} → Written d at n v d1 a1 → Wrote d1 a1 vs d2 a2 → Wrote d at (v ∷ vs) d2 a2
  group : {d d1 d2 : List ℕ} (us : List (List ℕ)) {vs : List (List ℕ)} {at n a1 a2 : ℕ} → Written d at n (joined us) d1 a1 → Wrote d1 a1 vs d2 a2
      → Wrote d at (us ++ vs) d2 a2

-- what one writer put, and what was put behind it
module _ {d d1 v : List ℕ} {at n a1 : ℕ} (w : Written d at n v d1 a1) where
  behind : (u : List ℕ) (a2 : ℕ) → a2 ≡ a1 + length u → a2 ≡ at + length (v ++ u)
  behind u a2 e = let x = w.size in let y = w.after in omega (arith, length-append v u)

  holding : (d2 u : List ℕ) → at + length (v ++ u) ≤ length d → (a1 + length u ≤ length d1 → d2 ≡ put d1 a1 u) → d2 ≡ put d at (v ++ u)
  holding d2 u h e =
      let g : at + length v + length u ≤ length d = omega (arith, length-append v u) in
      let l : length d1 ≡ length d = ap length w.holds ∙ length-put d at v (omega arith) in
      let a : a1 ≡ at + length v = omega (arith, w.size, w.after) in
      e (omega (arith, l, a)) ∙ (rw (w.holds, a) (put-more d at v u g))

pub wrote_after : {d d2 : List ℕ} {vs : List (List ℕ)} {at a2 : ℕ} → Wrote d at vs d2 a2 → a2 ≡ at + length (joined vs)
wrote_after done = sym (add-zero _)
wrote_after (step {vs} {a2} w r) = behind w (joined vs) a2 (wrote_after r)
wrote_after (group us {vs} {a2} w r) = rw (joined-append us vs) (behind w (joined vs) a2 (wrote_after r))

pub wrote-holds : {d d2 : List ℕ} {vs : List (List ℕ)} {at a2 : ℕ} → Wrote d at vs d2 a2 → at + length (joined vs) ≤ length d
    → d2 ≡ put d at (joined vs)
wrote-holds (done {d} {at}) h = sym (put-none d at)
wrote-holds (step {d2} {vs} w r) h = holding w d2 (joined vs) h (λ k. wrote-holds r k)
wrote-holds (group {d2} us {vs} w r) h = rw (joined-append us vs) (holding w d2 (joined vs) (rw (joined-append us vs) at h) (λ k. wrote-holds r k))

-- the joined fields were put
pub wrote : {d d2 : List ℕ} {vs : List (List ℕ)} {at a2 : ℕ} (n : ℕ) → Wrote d at vs d2 a2 → length (joined vs) ≡ n → at + n ≤ length d
    → Written d at n (joined vs) d2 a2
wrote {d} {d2} {vs} {at} n w e h = record { size = e; after = omega (arith, wrote_after w); holds = wrote-holds w (omega arith) }

-- octets copied into a part of a slice
pub copied : (d : List ℕ) (at : ℕ) (v : List ℕ) → paste d at v (length v) ≡ put d at v
unfolding put
copied d at v = rw take-length

pub as_number : {d d' : List ℕ} {at x y next : ℕ} (k : ℕ) → x ≡ y → Written d at k (octets_of k x) d' next → Written d at k (octets_of k y) d' next
as_number {x} {y} k e w = rw (← e) w

-- of the room for k octets, what is left behind n of them that one writer put
pub room-behind : {d d1 v : List ℕ} {at n a1 k : ℕ} (m : ℕ) → Written d at n v d1 a1 → at + k ≤ length d → n + m ≤ k → a1 + m ≤ length d1
room-behind {d} {d1} {v} {at} {n} {a1} {k} m w h e =
    let s : length v ≡ n = w.size in
    let a : a1 ≡ at + n = w.after in
    let l : length d1 ≡ length d = ap length w.holds ∙ length-put d at v (omega arith) in
    omega arith
