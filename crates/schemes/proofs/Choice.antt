-- Lists of schemes, and demand 3 on lists: a longer offer never loses a choice.
-- Assumes nothing.
use Prim.Native.Nat.{ℕ, suc, ◌≤◌}
use mathlib.Core.Path.{◌≡◌, refl, sym, ap, ◌∙◌}
use mathlib.Core.Bool.{Bool, true, false, not, ◌&&◌}
use mathlib.Core.Logic.{inl, inr}
use mathlib.Core.List.{List, [], ◌∷◌}
use mathlib.Core.Option.{some}
use native.Mathlib.Omega.{arith}
use Rattle.octets.proofs.Bools.{which, no_true, and_l, and_r, and_i}
use Rattle.octets.specs.Octets.{same_octets}
use Rattle.octets.proofs.Same.{same_refl, same-eq}
use Rattle.schemes.specs.Lists.{Id, mem, place, distinct, keep, first, marked, usable, left_over, rule2, reply_of}
use Rattle.schemes.specs.Longer.{Within, none_left, kept, gained, Longer, SameMarks, NoLater, LongerOffer}

-- keep

pub mem-head : (x : Id) (l : List Id) → mem x (x ∷ l) ≡ true
unfolding mem
mem-head x l = rw (same_refl x)

pub mem-tail : (s x : Id) (l : List Id) → mem s l ≡ true → mem s (x ∷ l) ≡ true
unfolding mem
mem-tail s x l m = elim (which (same_octets s x)) [ inl e ↦ rw e | inr e ↦ rw e m ]

pub keep-mem : (p : Id → Bool) (l : List Id) (s : Id) → p s ≡ true → mem s l ≡ true → mem s (keep p l) ≡ true
unfolding mem
keep-mem p [] s h m = m
keep-mem p (x ∷ l) s h m = elim (which (same_octets s x)) [
  | inl e ↦ let f : p x ≡ true = rw (same-eq s x e) at h in rw (f, e)
  | inr e ↦ elim (which (p x)) [
    | inl f ↦ rw (f, e) (keep-mem p l s h (rw e at m))
    | inr f ↦ rw f (keep-mem p l s h (rw e at m))
  ]
]

pub mem-keep : (p : Id → Bool) (l : List Id) (s : Id) → mem s (keep p l) ≡ true → (p s ≡ true) × (mem s l ≡ true)
unfolding mem
mem-keep p [] s m = no_true m
mem-keep p (x ∷ l) s m = elim (which (p x)) [
  | inl f ↦ elim (which (same_octets s x)) [
    | inl e ↦ (rw (same-eq s x e) f, rw e)
    | inr e ↦ let r : (p s ≡ true) × (mem s l ≡ true) = mem-keep p l s (rw (f, e) at m) in (r.0, rw e r.1)
  ]
  | inr f ↦ let r : (p s ≡ true) × (mem s l ≡ true) = mem-keep p l s (rw f at m) in (r.0, mem-tail s x l r.1)
]

pub first-mem : (l : List Id) (c : Id) → first l ≡ some c → mem c l ≡ true
unfolding mem
first-mem [] c e = let z : ◌≡◌ {A = ℕ} 0 1 = cc in absurd (omega arith)
first-mem (x ∷ l) c e = let q : c ≡ x = cc in rw (q, same_refl x)

pub keep-ext : (p q : Id → Bool) (l : List Id) → ((s : Id) → mem s l ≡ true → p s ≡ q s) → keep p l ≡ keep q l
keep-ext p q [] h = refl
keep-ext p q (x ∷ l) h =
    let t : keep p l ≡ keep q l = keep-ext p q l (λ s m. h s (mem-tail s x l m)) in
    rw (h x (mem-head x l), t)

pub keep-keep : (p q : Id → Bool) (l : List Id) → keep p (keep q l) ≡ keep (λ s. q s && p s) l
keep-keep p q [] = refl
keep-keep p q (x ∷ l) = elim (which (q x)) [
  | inl e ↦ rw (e, keep-keep p q l)
  | inr e ↦ rw (e, keep-keep p q l)
]

pub keep_all : (p : Id → Bool) (l : List Id) → ((s : Id) → mem s l ≡ true → p s ≡ true) → keep p l ≡ l
keep_all p [] h = refl
keep_all p (x ∷ l) h =
    let i : keep p l ≡ l = keep_all p l (λ s m. h s (mem-tail s x l m)) in
    rw (h x (mem-head x l), i)

pub keep-distinct : (p : Id → Bool) (l : List Id) → distinct l ≡ true → distinct (keep p l) ≡ true
unfolding distinct
keep-distinct p [] d = refl
keep-distinct p (x ∷ l) d =
    let n : not (mem x l) ≡ true = and_l (not (mem x l)) (distinct l) d in
    let i : distinct (keep p l) ≡ true = keep-distinct p l (and_r (not (mem x l)) (distinct l) d) in
    elim (which (p x)) [
      | inl e ↦ elim (which (mem x (keep p l))) [
        | inl f ↦ no_true (rw (mem-keep p l x f).1 at n)
        | inr f ↦ rw (e, f) i
      ]
      | inr e ↦ rw e i
    ]

pub not-mem-same : (s x : Id) (l : List Id) → mem s l ≡ true → not (mem x l) ≡ true → same_octets s x ≡ false
not-mem-same s x l m n = elim (which (same_octets s x)) [
  | inl e ↦ no_true (let q : mem x l ≡ true = rw (same-eq s x e) at m in rw q at n)
  | inr e ↦ e
]

-- places

-- the first that is kept stands no later than any that could be kept
pub first-place : (p : Id → Bool) (l : List Id) (c d : Id) → first (keep p l) ≡ some c → p d ≡ true → mem d l ≡ true → place l c ≤ place l d
unfolding mem place
first-place p [] c d e h m = no_true m
first-place p (x ∷ l) c d e h m = elim (which (p x)) [
  | inl f ↦ let q : c ≡ x = (let e' : some x ≡ some c = rw f at e in cc) in rw (q, same_refl x) (omega arith)
  | inr f ↦ elim (which (same_octets d x)) [
    | inl g ↦ no_true (sym f ∙ (ap p (sym (same-eq d x g)) ∙ h))
    | inr g ↦ elim (which (same_octets c x)) [
      | inl k ↦ rw (k, g) (omega arith)
      | inr k ↦ rw (k, g) (let i : place l c ≤ place l d = first-place p l c d (rw f at e) h (rw g at m) in omega arith)
    ]
  ]
]

-- places of a list tell its schemes apart
pub place-inj : (l : List Id) (c d : Id) → mem c l ≡ true → mem d l ≡ true → place l c ≡ place l d → c ≡ d
unfolding mem place
place-inj [] c d m n e = no_true m
place-inj (x ∷ l) c d m n e = elim (which (same_octets c x)) [
  | inl f ↦ elim (which (same_octets d x)) [
    | inl g ↦ same-eq c x f ∙ sym (same-eq d x g)
    | inr g ↦ absurd (let z : 0 ≡ suc (place l d) = rw (f, g) at e in omega arith)
  ]
  | inr f ↦ elim (which (same_octets d x)) [
    | inl g ↦ absurd (let z : suc (place l c) ≡ 0 = rw (f, g) at e in omega arith)
    | inr g ↦ place-inj l c d (rw f at m) (rw g at n) (let z : suc (place l c) ≡ suc (place l d) = rw (f, g) at e in omega arith)
  ]
]

-- a list within another

pub within-mem : {l k : List Id} → Within l k → (s : Id) → mem s l ≡ true → mem s k ≡ true
unfolding mem
within-mem none_left s m = m
within-mem (kept {x = x} w) s m = elim (which (same_octets s x)) [ inl e ↦ rw e | inr e ↦ rw e (within-mem w s (rw e at m)) ]
within-mem (gained {x = x} w) s m = elim (which (same_octets s x)) [ inl e ↦ rw e | inr e ↦ rw e (within-mem w s m) ]

-- the wider list, cut down to the narrower one's schemes, is the narrower one
pub within-keep : {l k : List Id} → Within l k → distinct k ≡ true → keep (λ s. mem s l) k ≡ l
unfolding mem distinct
within-keep none_left d = refl
within-keep (kept {x = x} {l = l} {k = k} w) d =
    let n : not (mem x k) ≡ true = and_l (not (mem x k)) (distinct k) d in
    let i : keep (λ s. mem s l) k ≡ l = within-keep w (and_r (not (mem x k)) (distinct k) d) in
    let j : keep (λ s. mem s (x ∷ l)) k ≡ keep (λ s. mem s l) k =
    keep-ext (λ s. mem s (x ∷ l)) (λ s. mem s l) k (λ s m. rw (not-mem-same s x k m n)) in
    rw (same_refl x) (ap (x ∷◌) (j ∙ i))
within-keep (gained {x = x} {l = l} {k = k} w) d =
    let n : not (mem x k) ≡ true = and_l (not (mem x k)) (distinct k) d in
    let i : keep (λ s. mem s l) k ≡ l = within-keep w (and_r (not (mem x k)) (distinct k) d) in
    elim (which (mem x l)) [
      | inl e ↦ no_true (rw (within-mem w x e) at n)
      | inr e ↦ rw e i
    ]

-- a longer offer

module _ (acc ini acc' ini' : List Id) (up : Longer acc ini acc' ini') (d : distinct acc' ≡ true) (ma mi : ℕ) (c : Id)
    (before : rule2 acc ini ma mi ≡ some c) where
  chosen : (usable acc ini ma mi c ≡ true) × (mem c acc ≡ true)
  chosen = mem-keep (usable acc ini ma mi) acc c (first-mem (left_over acc ini ma mi) c before)

  -- a scheme that both listed and neither marked before is so still
  carried : (ma' mi' : ℕ) → SameMarks acc ini acc ma acc' ma' → SameMarks acc ini ini mi ini' mi'
      → (s : Id) → mem s acc ≡ true → mem s ini ≡ true → usable acc' ini' ma' mi' s ≡ usable acc ini ma mi s
  carried ma' mi' sa si s a i = rw (sa s a i, si s a i, i, up.gains s i)

  listed : mem c ini ≡ true
  listed = and_l (mem c ini) (not (marked acc ma c)) (and_l (mem c ini && not (marked acc ma c)) (not (marked ini mi c)) chosen.0)

  pub still-usable : (ma' mi' : ℕ) → SameMarks acc ini acc ma acc' ma' → SameMarks acc ini ini mi ini' mi'
      → mem c (left_over acc' ini' ma' mi') ≡ true
  still-usable ma' mi' sa si =
      keep-mem (usable acc' ini' ma' mi') acc' c
      (carried ma' mi' sa si c chosen.1 listed ∙ chosen.0)
      (within-mem up.in_order c chosen.1)

  -- the acceptor's reply is not empty
  pub still-common : (ma' : ℕ) → SameMarks acc ini acc ma acc' ma'
      → mem c (reply_of acc' ini' ma') ≡ true
  still-common ma' sa =
      keep-mem (λ s. mem s ini' && not (marked acc' ma' s)) acc' c
      (rw (sa c chosen.1 listed, up.gains c listed)
      (and_r (mem c ini) (not (marked acc ma c)) (and_l (mem c ini && not (marked acc ma c)) (not (marked ini mi c)) chosen.0)))
      (within-mem up.in_order c chosen.1)

  -- the new choice stands no later, and is new if it is another
  stands : (ma' mi' : ℕ) → SameMarks acc ini acc ma acc' ma' → SameMarks acc ini ini mi ini' mi'
      → (c' : Id) → rule2 acc' ini' ma' mi' ≡ some c' → NoLater acc ini acc' c c'
  stands ma' mi' sa si c' after =
      let u' : Id → Bool = usable acc' ini' ma' mi' in
      let mc : mem c acc' ≡ true = within-mem up.in_order c chosen.1 in
      let h : (u' c' ≡ true) × (mem c' acc' ≡ true) = mem-keep u' acc' c' (first-mem (keep u' acc') c' after) in
      let le : place acc' c' ≤ place acc' c = first-place u' acc' c' c after (carried ma' mi' sa si c chosen.1 listed ∙ chosen.0) mc in
      let v : Id → Bool = λ s. mem s acc && usable acc ini ma mi s in
      let e : keep v acc' ≡ keep (usable acc ini ma mi) acc =
      sym (keep-keep (usable acc ini ma mi) (λ s. mem s acc) acc') ∙ ap (keep (usable acc ini ma mi)) (within-keep up.in_order d) in
      record {
        no_later = le;
        new = λ ne a i.
            let ge : place acc' c ≤ place acc' c' =
            first-place v acc' c c' (ap first e ∙ before) (and_i (mem c' acc) (usable acc ini ma mi c') a (sym (carried ma' mi' sa si c' a i) ∙ h.0))
            h.1 in
            ne (place-inj acc' c' c h.1 mc (omega arith));
      }

pub longer : LongerOffer
longer acc ini acc' ini' up d ma mi c before = stands acc ini acc' ini' up d ma mi c before
