-- A window line by line: passed over, shown, or at its end. In the words of the code where a function is meant.
-- Assumes nothing.
use Prim.Native.Nat.{ℕ, zero, suc, ◌+◌, ◌-◌, ◌<◌, ◌≤◌}
use mathlib.Core.Path.{◌≡◌, refl, sym, ap, subst, ◌∙◌}
use mathlib.Core.Bool.{Bool, true, false, cond}
use mathlib.Core.Logic.{◌⊎◌, inl, inr}
use mathlib.Core.List.{List, [], ◌∷◌, ◌++◌}
use native.Mathlib.Numerals.{add-one}
use native.Mathlib.Omega.{arith}
use lib.ListN.{length, drop, get_or}
use lib.Seq.{drop-cons}
use lib.Dec.{leb, eqb}
use borrow.Author.Tests.{le-leb, lt-leb, eq-eqb, ne_eqb, leb-true, eqb-false}
use Rattle.octets.proofs.Bools.{which}
use Rattle.put.specs.Put.{joined, put}
use Rattle.text.specs.Text.{Text, text, appended, written}
use Rattle.put.proofs.Laws.{length-put}
use Rattle.windows.specs.declared.Progress.{Progress}
use Rattle.windows.specs.Windows.{texts}
use Rattle.windows.specs.Steps.{State, within, state, placed, step_from, step, steps, Going}

-- the answers of `put_line`
module _ (p : Progress) (d l : List ℕ) where
  pub put-done : p.left ≡ 0 → within p d ≡ step (within p d) l
  unfolding step_from
  put-done e = simp (eq-eqb _ _ e)

  module _ (more : p.left ≡ 0 → ⊥) where
    pub put-skip : (p.skip ≡ 0 → ⊥) → state (p.skip - 1) p.left p.lines p.octets d ≡ step (within p d) l
    unfolding step_from
    put-skip e = simp (ne_eqb _ _ more, ne_eqb _ _ e)

    module _ (here : p.skip ≡ 0) (going : Going p (length d)) where
      pub put_full : length d - p.octets < length l → state p.skip 0 p.lines p.octets d ≡ step (within p d) l
      unfolding step_from
      put_full h =
          let g : length d < p.octets + length l = omega (arith, going.within) in
          ap (λ (k : ℕ). state k 0 p.lines p.octets d) here ∙ simp (ne_eqb _ _ more, eq-eqb _ _ here, lt-leb _ _ g)

      pub put-fits : length l ≤ length d - p.octets → (d' : List ℕ) (next : ℕ) → text d' next ≡ written (l ∷ []) (text d p.octets)
          → state p.skip (p.left - 1) (p.lines + 1) next d' ≡ step (within p d) l
      unfolding step_from written appended
      put-fits h d' next e =
          let g : p.octets + length l ≤ length d = omega (arith, going.within) in
          let w : text d' next ≡ text (put d p.octets l) (p.octets + length l) = simp (le-leb _ _ g) at e in
          ap (λ (k : ℕ). state k (p.left - 1) (p.lines + 1) next d') here
          ∙ ap (λ (t : Text). state 0 (p.left - 1) (p.lines + 1) t.next t.octets) w
          ∙ simp (ne_eqb _ _ more, eq-eqb _ _ here, le-leb _ _ g)

pub ruleset puts = (put-done, put-skip, put_full, put-fits)

-- a window stays inside its buffer, whose length stays
step-length : (t : State) (l : List ℕ) → length (step t l).buffer ≡ length t.buffer
unfolding step_from
step-length t l = go (eqb t.progress.left 0) (eqb t.progress.skip 0) (which (leb (t.progress.octets + length l) (length t.buffer))) where
  go : (a b : Bool)
      → (leb (t.progress.octets + length l) (length t.buffer) ≡ true) ⊎ (leb (t.progress.octets + length l) (length t.buffer) ≡ false)
      → length
      (cond a t
      (cond b (placed t.progress.left t.progress.lines t.progress.octets t.buffer l)
      (state (t.progress.skip - 1) t.progress.left t.progress.lines t.progress.octets t.buffer))).buffer ≡ length t.buffer
  go true b w = refl
  go false false w = refl
  go false true (inl e) = rw e (length-put _ _ _ (leb-true _ _ e))
  go false true (inr e) = rw e

step-going : (t : State) (l : List ℕ) → Going t.progress (length t.buffer) → Going (step t l).progress (length t.buffer)
unfolding step_from
step-going t l g =
    go (which (eqb t.progress.left 0)) (eqb t.progress.skip 0) (which (leb (t.progress.octets + length l) (length t.buffer))) where
      go : (eqb t.progress.left 0 ≡ true) ⊎ (eqb t.progress.left 0 ≡ false) → (b : Bool)
          → (leb (t.progress.octets + length l) (length t.buffer) ≡ true) ⊎ (leb (t.progress.octets + length l) (length t.buffer) ≡ false)
          → Going
          (cond (eqb t.progress.left 0) t
          (cond b (placed t.progress.left t.progress.lines t.progress.octets t.buffer l)
          (state (t.progress.skip - 1) t.progress.left t.progress.lines t.progress.octets t.buffer))).progress (length t.buffer)
      go (inl a) b w = rw a g
      go (inr a) false w = rw a (record { within = g.within; few = g.few })
      go (inr a) true (inl e) =
          let some : t.progress.left ≡ 0 → ⊥ = eqb-false _ _ a in
          rw (a, e) (record { within = leb-true _ _ e; few = omega (arith, g.few) })
      go (inr a) true (inr e) = rw (a, e) (record { within = g.within; few = omega (arith, g.few) })

pub steps-length : (ls : List (List ℕ)) (t : State) → length (steps ls t).buffer ≡ length t.buffer
unfolding steps
steps-length [] t = refl
steps-length (l ∷ ls) t = steps-length ls (step t l) ∙ step-length t l

pub steps-going : (ls : List (List ℕ)) (t : State) → Going t.progress (length t.buffer) → Going (steps ls t).progress (length t.buffer)
unfolding steps
steps-going [] t g = g
steps-going (l ∷ ls) t g =
    let n = step-length t l in
    subst (λ (k : ℕ). Going (steps ls (step t l)).progress k) n
    (steps-going ls (step t l) (subst (λ (k : ℕ). Going (step t l).progress k) (sym n) (step-going t l g)))

-- the same, for what a call answers
module _ (p q : Progress) (d d' : List ℕ) (n : ℕ) (size : length d ≡ n) (going : Going p n) where
  start-going : Going p (length d)
  start-going = subst (Going p) (sym size) going

  pub stepped-going : (l : List ℕ) → within q d' ≡ step (within p d) l → Going q n
  stepped-going l e =
      subst (Going q) size (subst (λ (t : State). Going t.progress (length d)) (sym e) (step-going (within p d) l start-going))

  pub steps-going-on : (ls : List (List ℕ)) → within q d' ≡ steps ls (within p d) → Going q n
  steps-going-on ls e =
      subst (Going q) size (subst (λ (t : State). Going t.progress (length d)) (sym e) (steps-going ls (within p d) start-going))

pub went : (p q : Progress) (d d' : List ℕ) (ls : List (List ℕ)) → within q d' ≡ steps ls (within p d) → Going p (length d) → Going q (length d')
went p q d d' ls e g =
    let n : length d ≡ length d' = sym (ap (λ (t : State). length t.buffer) e ∙ steps-length ls (within p d)) in
    steps-going-on p q d d' (length d') n (subst (Going p) n g) ls e

pub steps-append : (xs ys : List (List ℕ)) (t : State) → steps (xs ++ ys) t ≡ steps ys (steps xs t)
unfolding steps
steps-append [] ys t = refl
steps-append (x ∷ xs) ys t = steps-append xs ys (step t x)

-- at the window's end nothing changes
pub steps-done : (ls : List (List ℕ)) (p : Progress) (d : List ℕ) → p.left ≡ 0 → within p d ≡ steps ls (within p d)
unfolding steps
steps-done [] p d e = refl
steps-done (l ∷ ls) p d e = steps-done ls p d e ∙ ap (steps ls) (put-done p d l e)

-- lines that are passed over
abbrev pub at-skip : Progress → ℕ → Progress
at-skip p k = record { skip = k; left = p.left; lines = p.lines; octets = p.octets }

pub steps-over : (ls : List (List ℕ)) (k : ℕ) (p : Progress) (d : List ℕ) → (p.left ≡ 0 → ⊥) → length ls ≤ k
    → within (at-skip p (k - length ls)) d ≡ steps ls (within (at-skip p k) d)
unfolding steps
steps-over [] k p d more h = let e : k - 0 ≡ k = omega arith in ap (λ (n : ℕ). within (at-skip p n) d) e
steps-over (l ∷ ls) zero p d more h = absurd (omega arith)
steps-over (l ∷ ls) (suc k) p d more h =
    let e : suc k - suc (length ls) ≡ k - length ls = omega arith in
    let u : suc k - 1 ≡ k = omega arith in
    ap (λ (n : ℕ). within (at-skip p n) d) e
    ∙ steps-over ls k p d more (omega arith)
    ∙ ap (steps ls) (ap (λ (n : ℕ). within (at-skip p n) d) (sym u) ∙ put-skip (at-skip p (suc k)) d l more (λ z. omega arith))

pub steps-into : (ls : List (List ℕ)) (k : ℕ) (p : Progress) (d : List ℕ) → (p.left ≡ 0 → ⊥) → k ≤ length ls
    → steps ls (within (at-skip p k) d) ≡ steps (drop k ls) (within (at-skip p 0) d)
unfolding steps
steps-into ls zero p d more h = refl
steps-into [] (suc k) p d more h = absurd (omega arith)
steps-into (l ∷ ls) (suc k) p d more h =
    let u : suc k - 1 ≡ k = omega arith in
    ap (steps ls) (sym (ap (λ (n : ℕ). within (at-skip p n) d) (sym u) ∙ put-skip (at-skip p (suc k)) d l more (λ z. omega arith)))
    ∙ steps-into ls k p d more (omega arith)

-- one line of those that are left
pub steps-turn : (ls : List (List ℕ)) (i : ℕ) (t : State) → i < length ls → steps (drop i ls) t ≡ steps (drop (i + 1) ls) (step t (get_or ls i []))
unfolding steps
steps-turn ls i t h = rw (add-one, drop-cons ls i [] h)

-- the texts of lines
pub length-texts : (ls : List (List (List ℕ))) → length (texts ls) ≡ length ls
unfolding texts
length-texts [] = refl
length-texts (l ∷ ls) = ap suc (length-texts ls)

pub get_or-texts : (ls : List (List (List ℕ))) (i : ℕ) → get_or (texts ls) i [] ≡ joined (get_or ls i [])
unfolding texts
get_or-texts [] i = refl
get_or-texts (l ∷ ls) zero = refl
get_or-texts (l ∷ ls) (suc i) = get_or-texts ls i

pub texts-append : (xs ys : List (List (List ℕ))) → texts (xs ++ ys) ≡ texts xs ++ texts ys
unfolding texts
texts-append [] ys = refl
texts-append (x ∷ xs) ys = ap (λ (ts : List (List ℕ)). joined x ∷ ts) (texts-append xs ys)
