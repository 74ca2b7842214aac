-- Lines put one by one are the window: what fits of the range, at the buffer's front.
-- Assumes nothing.
use Prim.Native.Nat.{ℕ, zero, suc, ◌+◌, ◌-◌, ◌<◌, ◌≤◌}
use mathlib.Core.Path.{◌≡◌, refl, sym, ap, subst, ◌∙◌}
use mathlib.Core.Bool.{true, false, cond}
use mathlib.Core.Logic.{◌⊎◌, inl, inr}
use mathlib.Core.List.{List, [], ◌∷◌}
use native.Mathlib.Nat.{add-zero, zero-add}
use native.Mathlib.Omega.{arith}
use lib.ListN.{length, take, drop, length-append}
use lib.Seq.{take-nil, drop-nil}
use lib.Dec.{leb}
use borrow.Author.Tests.{le-leb, lt-leb, ne_eqb, leb-true, leb-false}
use Rattle.octets.proofs.Bools.{which}
use Rattle.put.specs.Put.{joined, put}
use Rattle.put.proofs.Laws.{length-put, put-more, put-none}
use Rattle.windows.specs.declared.Progress.{Progress}
use Rattle.windows.specs.declared.Shown.{Shown}
use Rattle.windows.specs.Windows.{fitting, range, Window, as_window, window_of}
use Rattle.windows.specs.Steps.{State, within, state, start_of, step_from, steps, shown_so_far, Going}
use Rattle.windows.proofs.Stepping.{steps-done}

-- what fits is no longer than the room
pub fitting-room : (room : ℕ) (ls : List (List ℕ)) → length (joined (fitting room ls)) ≤ room
unfolding fitting
fitting-room room [] = omega arith
fitting-room room (l ∷ ls) = go (which (leb (length l) room)) (fitting-room (room - length l) ls) where
  go : (leb (length l) room ≡ true) ⊎ (leb (length l) room ≡ false) → length (joined (fitting (room - length l) ls)) ≤ room - length l
      → length (joined (cond (leb (length l) room) (l ∷ fitting (room - length l) ls) [])) ≤ room
  go (inl e) h = let g : length l ≤ room = leb-true _ _ e in rw e (omega (arith, length-append l (joined (fitting (room - length l) ls))))
  go (inr e) h = rw e (omega arith)

-- the outcome of a state, and of lines put behind n lines in o octets
abbrev pub window_at : State → Window
window_at t = record { lines = t.progress.lines; octets = t.progress.octets; buffer = t.buffer }

abbrev behind : List ℕ → ℕ → ℕ → List (List ℕ) → Window
behind d n o fs = record { lines = n + length fs; octets = o + length (joined fs); buffer = put d o (joined fs) }

same : (a a' b b' : ℕ) (c c' : List ℕ) → a ≡ a' → b ≡ b' → c ≡ c'
    → ◌≡◌ {A = Window} (record { lines = a; octets = b; buffer = c }) (record { lines = a'; octets = b'; buffer = c' })
same a a' b b' c c' p q r = rw (p, q, r)

behind-none : (d : List ℕ) (n o : ℕ) → record { lines = n; octets = o; buffer = d } ≡ behind d n o []
behind-none d n o = same _ _ _ _ _ _ (sym (add-zero n)) (sym (add-zero o)) (sym (put-none d o))

behind_more : (d : List ℕ) (n o : ℕ) (l : List ℕ) (fs : List (List ℕ)) → o + length l + length (joined fs) ≤ length d
    → behind (put d o l) (n + 1) (o + length l) fs ≡ behind d n o (l ∷ fs)
behind_more d n o l fs h = same _ _ _ _ _ _ (omega arith) (omega (arith, length-append l (joined fs))) (put-more d o l (joined fs) h)

-- one line: passed over, shown, or the end
step_skip : (k left n o : ℕ) (d l : List ℕ) → step_from (suc k) (suc left) n o d l ≡ state k (suc left) n o d
unfolding step_from
step_skip k left n o d l =
    let e : suc k - 1 ≡ k = omega arith in
    simp (ne_eqb (suc left) 0 (λ z. omega arith), ne_eqb (suc k) 0 (λ z. omega arith), e)

step_fits : (left n o : ℕ) (d l : List ℕ) → o + length l ≤ length d → step_from 0 (suc left) n o d l ≡ state 0 left (n + 1) (o + length l) (put d o l)
unfolding step_from
step_fits left n o d l h =
    let e : suc left - 1 ≡ left = omega arith in
    simp (ne_eqb (suc left) 0 (λ z. omega arith), le-leb _ _ h, e)

step-full : (left n o : ℕ) (d l : List ℕ) → length d < o + length l → step_from 0 (suc left) n o d l ≡ state 0 0 n o d
unfolding step_from
step-full left n o d l h = simp (ne_eqb (suc left) 0 (λ z. omega arith), lt-leb _ _ h)

-- lines put one by one are what fits of the range, put joined
pub steps-window : (ls : List (List ℕ)) (skip left n o : ℕ) (d : List ℕ) → o ≤ length d
    → window_at (steps ls (state skip left n o d)) ≡ behind d n o (fitting (length d - o) (take left (drop skip ls)))
unfolding steps fitting
steps-window [] skip left n o d h = rw (drop-nil skip, take-nil left) (behind-none d n o)
steps-window (l ∷ ls) skip zero n o d h = ap window_at (sym (steps-done (l ∷ ls) (state skip zero n o d).progress d refl)) ∙ behind-none d n o
steps-window (l ∷ ls) (suc skip) (suc left) n o d h =
    ap (λ (t : State). window_at (steps ls t)) (step_skip skip left n o d l) ∙ steps-window ls skip (suc left) n o d h
steps-window (l ∷ ls) zero (suc left) n o d h =
    go (which (leb (o + length l) (length d))) (λ k. steps-window ls 0 left (n + 1) (o + length l) (put d o l) k) where
      go : (leb (o + length l) (length d) ≡ true) ⊎ (leb (o + length l) (length d) ≡ false)
          → (o + length l ≤ length (put d o l) → window_at (steps ls (state 0 left (n + 1) (o + length l) (put d o l)))
          ≡ behind (put d o l) (n + 1) (o + length l) (fitting (length (put d o l) - (o + length l)) (take left (drop 0 ls))))
          → window_at (steps ls (step_from 0 (suc left) n o d l)) ≡ behind d n o (fitting (length d - o) (l ∷ take left (drop 0 ls)))
      go (inl e) ih =
          let g : o + length l ≤ length d = leb-true _ _ e in
          let z : length (put d o l) ≡ length d = length-put d o l g in
          let r : length (put d o l) - (o + length l) ≡ length d - o - length l = omega arith in
          let b : length l ≤ length d - o = omega arith in
          let fs = fitting (length d - o - length l) (take left (drop 0 ls)) in
          ap (λ (t : State). window_at (steps ls t)) (step_fits left n o d l g)
          ∙ ih (omega arith)
          ∙ ap (λ (m : ℕ). behind (put d o l) (n + 1) (o + length l) (fitting m (take left (drop 0 ls)))) r
          ∙ behind_more d n o l fs (omega (arith, fitting-room (length d - o - length l) (take left (drop 0 ls))))
          ∙ (unfold fitting in simp (le-leb (length l) (length d - o) b))
      go (inr e) ih =
          let g : length d < o + length l = leb-false _ _ e in
          let b : length d - o < length l = omega arith in
          ap (λ (t : State). window_at (steps ls t)) (step-full left n o d l g)
          ∙ ap window_at (sym (steps-done ls (state 0 0 n o d).progress d refl))
          ∙ behind-none d n o
          ∙ (unfold fitting in simp (lt-leb (length l) (length d - o) b))

pub steps-shown : (ls : List (List ℕ)) (first end : ℕ) (d : List ℕ) → window_at (steps ls (within (start_of first end) d)) ≡ window_of ls first end d
unfolding window_of
steps-shown ls first end d =
    let z : length d - 0 ≡ length d = omega arith in
    steps-window ls first (end - first) 0 0 d (omega arith)
    ∙ ap (λ (m : ℕ). behind d 0 0 (fitting m (range first end ls))) z
    ∙ same _ _ _ _ _ _ (zero-add _) (zero-add _) refl

-- what the code answers behind the last line is the window
pub window-is : (ls : List (List ℕ)) (first end : ℕ) (d : List ℕ) (p t : Progress) (d' : List ℕ) → p ≡ start_of first end
    → within t d' ≡ steps ls (within p d) → (r : Shown) → r ≡ shown_so_far t → as_window r d' ≡ window_of ls first end d
window-is ls first end d p t d' p-is t-is r r-is =
    ap (λ (x : Shown). as_window x d') r-is
    ∙ ap window_at (t-is ∙ ap (λ (u : Progress). steps ls (within u d)) p-is)
    ∙ steps-shown ls first end d

pub start-going : (first end room : ℕ) (p : Progress) → p ≡ start_of first end → end < 18446744073709551616 → Going p room
start-going first end room p e h = subst (λ (q : Progress). Going q room) (sym e) (record { within = omega arith; few = omega arith })
