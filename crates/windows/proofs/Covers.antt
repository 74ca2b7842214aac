-- Windows one after the other hold the lines up to where they reach. What a window answers lies in its range and in its buffer.
-- Assumes nothing.
use Prim.Native.Nat.{ℕ, suc, ◌+◌, ◌-◌, ◌<◌, ◌≤◌}
use mathlib.Core.Path.{◌≡◌, refl, sym, ap, ◌∙◌}
use mathlib.Core.Bool.{Bool, true, false, cond}
use mathlib.Core.Logic.{◌⊎◌, inl, inr}
use mathlib.Core.List.{List, [], ◌∷◌, ◌++◌}
use native.Mathlib.Omega.{arith}
use lib.ListN.{length, take, drop, get_or, length-take, length-drop}
use lib.Seq.{drop-drop, get_or-take, get_or-drop, take-add, take_all, take-take}
use lib.Dec.{leb}
use borrow.Author.Tests.{le-leb, leb-true, leb-false}
use Rattle.octets.proofs.Bools.{which}
use Rattle.put.specs.Put.{joined, put}
use Rattle.put.proofs.Laws.{joined-append}
use Rattle.text.proofs.Pieces.{take_put}
use Rattle.windows.specs.declared.Shown.{Shown}
use Rattle.windows.specs.Windows.{fitting, range, Window, as_window, window_of, text_of, Request, following, reached, EachShows, GetsOn, WindowsJoined, WindowsAll}
use Rattle.windows.proofs.Windows.{fitting-room}

-- what fits is the front of the lines
fitting-front : (room : ℕ) (ls : List (List ℕ)) → fitting room ls ≡ take (length (fitting room ls)) ls
unfolding fitting
fitting-front room [] = refl
fitting-front room (l ∷ ls) = go (leb (length l) room) (fitting-front (room - length l) ls) where
  go : (b : Bool) → fitting (room - length l) ls ≡ take (length (fitting (room - length l) ls)) ls
      → cond b (l ∷ fitting (room - length l) ls) [] ≡ take (length (cond b (l ∷ fitting (room - length l) ls) [])) (l ∷ ls)
  go true e = ap (λ (x : List (List ℕ)). l ∷ x) e
  go false e = refl

fitting-some : (room : ℕ) (ls : List (List ℕ)) → length (get_or ls 0 []) ≤ room → 0 < length ls → 0 < length (fitting room ls)
unfolding fitting
fitting-some room [] h g = absurd (omega arith)
fitting-some room (l ∷ ls) h g = simp (le-leb (length l) room h) (omega arith)

length-fitting : (room : ℕ) (ls : List (List ℕ)) → length (fitting room ls) ≤ length ls
length-fitting room ls = omega (arith, ap length (fitting-front room ls), length-take (length (fitting room ls)) ls)

-- the first line of a range
first_of : (ls : List (List ℕ)) (first end : ℕ) → 0 < length (range first end ls) → get_or (range first end ls) 0 [] ≡ get_or ls first []
first_of ls first end h =
    let w : 0 < end - first = omega (arith, length-take (end - first) (drop first ls)) in
    let e : first + 0 ≡ first = omega arith in
    get_or-take (end - first) (drop first ls) 0 [] w ∙ get_or-drop first ls 0 [] ∙ ap (λ (k : ℕ). get_or ls k []) e

module _ (ls : List (List ℕ)) (first end : ℕ) (d : List ℕ) where
  -- the lines that a window shows
  shown_by : List (List ℕ)
  shown_by = fitting (length d) (range first end ls)

  lines_are : (window_of ls first end d).lines ≡ length shown_by
  unfolding window_of shown_by
  lines_are = refl

  octets-are : (window_of ls first end d).octets ≡ length (joined shown_by)
  unfolding window_of shown_by
  octets-are = refl

  text-is : text_of (window_of ls first end d) ≡ joined shown_by
  unfolding window_of shown_by
  text-is =
      let fs = fitting (length d) (range first end ls) in
      let e : length (joined fs) ≡ 0 + length (joined fs) = omega arith in
      ap (λ (k : ℕ). take k (put d 0 (joined fs))) e ∙ take_put d 0 (joined fs) (omega (arith, fitting-room (length d) (range first end ls)))

  -- they are the lines from the first on, as many as the window has
  front-is : shown_by ≡ take (window_of ls first end d).lines (drop first ls)
  unfolding window_of shown_by
  front-is =
      let n : length (fitting (length d) (range first end ls)) ≤ end - first =
      omega (arith, length-fitting (length d) (range first end ls), length-take (end - first) (drop first ls)) in
      fitting-front (length d) (range first end ls) ∙ take-take (length (fitting (length d) (range first end ls))) (end - first) (drop first ls) n

  -- what a window answers: octets of its buffer, lines of its range and of the whole
  module _ (d' : List ℕ) (r : Shown) (is : as_window r d' ≡ window_of ls first end d) where
    pub window-octets : r.octets ≤ length d
    unfolding shown_by
    window-octets = omega (arith, ap (λ (w : Window). w.octets) is, octets-are, fitting-room (length d) (range first end ls))

    pub window-range : r.lines ≤ end - first
    unfolding shown_by
    window-range =
        omega (
          arith,
          ap (λ (w : Window). w.lines) is,
          lines_are,
          length-fitting (length d) (range first end ls),
          length-take (end - first)
              (drop first ls),
        )

    pub window-lines : r.lines ≤ length ls - first
    unfolding shown_by
    window-lines =
        omega (
          arith,
          ap (λ (w : Window). w.lines) is,
          lines_are,
          length-fitting (length d) (range first end ls),
          length-take (end - first)
              (drop first ls),
          length-drop first ls,
        )

-- a window whose buffer has room for its first line shows it
pub gets-on : GetsOn
unfolding shown_by
gets-on ls first end d before inside h =
    let some : 0 < length (range first end ls) = omega (arith, length-take (end - first) (drop first ls), length-drop first ls) in
    let n : length (get_or (range first end ls) 0 []) ≤ length d = omega (arith, ap length (first_of ls first end some)) in
    omega (arith, lines_are ls first end d, fitting-some (length d) (range first end ls) n some)

-- windows reach no line before their first
reached-on : (ls : List (List ℕ)) (first : ℕ) (qs : List Request) → first ≤ reached ls first qs
unfolding reached
reached-on ls first [] = omega arith
reached-on ls first (q ∷ qs) = omega (arith, reached-on ls (first + (window_of ls first q.end q.buffer).lines) qs)

following-joined : (ls : List (List ℕ)) (first : ℕ) (qs : List Request)
    → following ls first qs ≡ joined (take (reached ls first qs - first) (drop first ls))
unfolding following reached
following-joined ls first [] = let e : 0 ≡ first - first = omega arith in ap (λ (k : ℕ). joined (take k (drop first ls))) e
following-joined ls first (q ∷ qs) =
    let k = (window_of ls first q.end q.buffer).lines in
    let far = reached ls (first + k) qs in
    let e : k + (far - (first + k)) ≡ far - first = omega (arith, reached-on ls (first + k) qs) in
    ap (λ (x : List ℕ). text_of (window_of ls first q.end q.buffer) ++ x) (following-joined ls (first + k) qs)
    ∙ ap (λ (x : List ℕ). x ++ joined (take (far - (first + k)) (drop (first + k) ls)))
    (text-is ls first q.end q.buffer ∙ ap joined (front-is ls first q.end q.buffer))
    ∙ ap (λ (x : List (List ℕ)). joined (take k (drop first ls)) ++ joined (take (far - (first + k)) x)) (sym (drop-drop k first ls))
    ∙ sym (joined-append (take k (drop first ls)) (take (far - (first + k)) (drop k (drop first ls))))
    ∙ ap joined (sym (take-add k (far - (first + k)) (drop first ls)) ∙ ap (λ (n : ℕ). take n (drop first ls)) e)

pub windows-joined : WindowsJoined
windows-joined ls qs = let e : reached ls 0 qs - 0 ≡ reached ls 0 qs = omega arith in following-joined ls 0 qs ∙ ap (λ (n : ℕ). joined (take n ls)) e

-- enough windows, each with a line, reach the end
pub reached-all : (ls : List (List ℕ)) (first : ℕ) (qs : List Request) → EachShows ls first qs → length ls ≤ first + length qs
    → length ls ≤ reached ls first qs
unfolding reached EachShows
reached-all ls first [] h g = omega arith
reached-all ls first (q ∷ qs) h g =
    go (which (leb (suc first) (length ls))) (reached-all ls (first + (window_of ls first q.end q.buffer).lines) qs h.1) where
      go : (leb (suc first) (length ls) ≡ true) ⊎ (leb (suc first) (length ls) ≡ false)
          → (length ls ≤ first + (window_of ls first q.end q.buffer).lines + length qs
          → length ls ≤ reached ls (first + (window_of ls first q.end q.buffer).lines) qs)
          → length ls ≤ reached ls (first + (window_of ls first q.end q.buffer).lines) qs
      go (inl e) ih =
          let more : suc first ≤ length ls = leb-true _ _ e in
          let some : first < length ls = omega arith in
          ih (omega (arith, h.0 some))
      go (inr e) ih =
          let none : length ls < suc first = leb-false _ _ e in omega (arith, reached-on ls (first + (window_of ls first q.end q.buffer).lines) qs)

pub windows-all : WindowsAll
windows-all ls qs h g = windows-joined ls qs ∙ ap joined (take_all (reached ls 0 qs) ls (reached-all ls 0 qs h (omega arith)))
