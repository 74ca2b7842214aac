-- One element, written and read.
-- Assumes nothing.
use Prim.Native.Nat.{ℕ, ◌+◌, ◌<◌, ◌≤◌}
use mathlib.Core.Path.{◌≡◌, refl, sym, ap, ◌∙◌}
use mathlib.Core.Bool.{Bool, true, false, ◌||◌}
use mathlib.Core.List.{List, [], ◌∷◌, ◌++◌, append_assoc}
use mathlib.Core.Logic.{◌⊎◌, inl, inr}
use native.Mathlib.Omega.{arith}
use lib.ListN.{length, take, drop, length-append, take-append-drop}
use lib.Seq.{take-append_seam, drop-append_seam, drop-drop}
use lib.Dec.{leb, ltb, eqb}
use borrow.Author.Tests.{le-leb, eq-eqb, eqb-true, ltb-true}
use Rattle.octets.proofs.Bools.{which}
use Rattle.octets.proofs.Same.{same_refl, same-eq}
use Rattle.der.specs.Got.{ok, check}
use Rattle.der.specs.Element.{length_of, lead_of, size_of, Frame, framed, framed_from, frame, indefinite, judged, element, cut, Part}
use Rattle.der.proofs.Gots.{bind_ok, check-ok, no_ok}
use Rattle.der.proofs.Lengths.{Reads, length-reads}

-- what is written is taken apart again
framed-back : (c r : List ℕ) → length c ≤ 65535
    → framed_from (length_of (length c) ++ (c ++ r)) ≡ ok (record { lead = length_of (length c); contents = c; rest = r })
unfolding framed_from framed check
framed-back c r small =
    let v = length_of (length c) in
    let k : Reads (length c) v (c ++ r) = length-reads (length c) (c ++ r) small in
    let d : drop (length v + length c) (v ++ (c ++ r)) ≡ r =
    sym (drop-drop (length c) (length v) (v ++ (c ++ r))) ∙ rw (drop-append_seam v (c ++ r)) (drop-append_seam c r) in
    let g : length v + length c ≤ length (v ++ (c ++ r)) = simp length-append (omega arith) in
    let f : leb (length v + length c) (length (v ++ (c ++ r))) ≡ true = le-leb _ _ g in
    rw (k.lead, k.size, f, drop-append_seam v (c ++ r), take-append_seam c r, take-append_seam v (c ++ r), d)

pub cut-back : (t : ℕ) (p : List ℕ → Bool) (c r : List ℕ) → length c ≤ 65535 → p c ≡ true
    → cut t p (element t c ++ r) ≡ ok (record { value = c; rest = r })
unfolding cut frame element judged check
cut-back t p c r small right = rw (eq-eqb t t refl, append_assoc, framed-back c r small, right, same_refl (length_of (length c)))

-- what is taken apart is what is written, where its length is the shortest
in_three : (a n : ℕ) (s : List ℕ) → s ≡ take a s ++ (take n (drop a s) ++ drop (a + n) s)
in_three a n s = sym (rw (← drop-drop n a s, take-append-drop n (drop a s), take-append-drop a s))

framed-forth : (s : List ℕ) (f : Frame) → framed_from s ≡ ok f → s ≡ f.lead ++ (f.contents ++ f.rest)
unfolding framed_from framed
framed-forth s f e =
    let (fits, e1) = check-ok _ 20 _ f e in
    let is : framed s ≡ f = cc in
    rw (← is) (in_three (lead_of s) (size_of s) s)

-- no shortest length is the octet 80
not-indefinite : (n : ℕ) → length_of n ≡ 0x80 ∷ [] → ⊥
unfolding length_of
not-indefinite n e = go (which (ltb n 128)) (which (ltb n 256)) where
  go : (ltb n 128 ≡ true) ⊎ (ltb n 128 ≡ false) → (ltb n 256 ≡ true) ⊎ (ltb n 256 ≡ false) → ⊥
  go (inl a) b = let h : n ∷ [] ≡ 0x80 ∷ [] = rw a at e in let k : n ≡ 0x80 = cc in let l : n < 128 = ltb-true n 128 a in absurd (omega arith)
  go (inr a) (inl b) = let h = ap length (rw (a, b) at e) in absurd (omega arith)
  go (inr a) (inr b) = let h = ap length (rw (a, b) at e) in absurd (omega arith)

judged-forth : (right : Bool) (f : Frame) (q : Part (List ℕ)) → judged right f ≡ ok q
    → (right ≡ true) × (f.lead ≡ length_of (length f.contents)) × (record { value = f.contents; rest = f.rest } ≡ q)
unfolding judged
judged-forth right f q e =
    let (fine, e1) = check-ok _ 20 _ q e in
    let (short, e2) = check-ok _ 21 _ q e1 in
    let lead_is = same-eq f.lead (length_of (length f.contents)) short in
    (go right fine lead_is, lead_is, cc) where
      go : (b : Bool) → b || indefinite f.lead ≡ true → f.lead ≡ length_of (length f.contents) → b ≡ true
      go true h k = refl
      go false h k = absurd (not-indefinite (length f.contents) (sym k ∙ same-eq f.lead (0x80 ∷ []) h))

pub cut-forth : (t : ℕ) (p : List ℕ → Bool) (s : List ℕ) (q : Part (List ℕ)) → cut t p s ≡ ok q
    → (s ≡ element t q.value ++ q.rest) × (p q.value ≡ true)
unfolding cut frame element
cut-forth t p [] q e = no_ok 20 q e
cut-forth t p (x ∷ s) q e =
    let (f, e1, e2) = bind_ok (check (eqb x t) 20 (framed_from s)) _ q e in
    let (tag, e3) = check-ok _ 20 _ f e1 in
    let (right, lead_is, is) = judged-forth (p f.contents) f q e2 in
    let z : s ≡ length_of (length f.contents) ++ (f.contents ++ f.rest) =
    framed-forth s f e3 ∙ ap (λ (v : List ℕ). v ++ (f.contents ++ f.rest)) lead_is in
    let w : x ∷ s ≡ element t f.contents ++ f.rest =
    ap (λ (y : ℕ). y ∷ s) (eqb-true x t tag) ∙ ap (λ (u : List ℕ). t ∷ u)
    (z ∙ sym (append_assoc (length_of (length f.contents)) f.contents f.rest)) in
    rw (← is) (w, right)
