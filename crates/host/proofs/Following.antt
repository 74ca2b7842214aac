-- Windows that a host asks for one after the other are the listing's windows one after the other.
-- Assumes nothing.
use Prim.Native.Nat.{ℕ, zero, suc, ◌+◌, ◌-◌, ◌<◌, ◌≤◌}
use mathlib.Core.Path.{◌≡◌, refl, sym, ap, subst, ◌∙◌}
use mathlib.Core.Logic.{inl, inr}
use mathlib.Core.List.{List, [], ◌∷◌, ◌++◌}
use native.Mathlib.Omega.{arith}
use lib.ListN.{length, take, drop, length-take, length-drop}
use lib.Seq.{take_all}
use lib.Dec.{leb}
use borrow.Author.Tests.{leb-true, leb-false}
use Rattle.octets.proofs.Bools.{which}
use Rattle.token.specs.Token.{Reading}
use Rattle.token.specs.Walk.{Accepts}
use Rattle.put.specs.Put.{joined, put}
use Rattle.text.proofs.Pieces.{take_put}
use Rattle.windows.specs.Windows.{fitting, range, window_of, text_of, Request, following, reached, EachShows}
use Rattle.windows.proofs.Windows.{fitting-room}
use Rattle.windows.proofs.Covers.{gets-on, windows-joined, reached-all}
use Rattle.listing.specs.Listing.{lines_of}
use Rattle.replies.specs.Replies.{Reply, and_then, reading_reply, written_in}
use Rattle.host.specs.Host.{window_text, window_answer}
use Rattle.host.specs.Following.{text_in, line_ends, shown_from, reached_from, EachFits, HostWindows, HostReaches}
use Rattle.host.proofs.Windows.{shown_by, text-beyond, text-none, text-full, text-some}
use Rattle.host.proofs.Ends.{OneEach, lines-ends, ends-joined}

-- ---- part of lines with one line end each
each-drop : (n : ℕ) (ts : List (List ℕ)) → OneEach ts → OneEach (drop n ts)
each-drop zero ts h = h
each-drop (suc n) [] h = tt
each-drop (suc n) (t ∷ ts) h = each-drop n ts h.1

each_take : (n : ℕ) (ts : List (List ℕ)) → OneEach ts → OneEach (take n ts)
each_take zero ts h = tt
each_take (suc n) [] h = tt
each_take (suc n) (t ∷ ts) h = (h.0, each_take n ts h.1)

each-fitting : (room : ℕ) (ts : List (List ℕ)) → OneEach ts → OneEach (fitting room ts)
unfolding fitting
each-fitting room [] h = tt
each-fitting room (t ∷ ts) h = elim (which (leb (length t) room)) [
  | inl e ↦ rw e (h.0, each-fitting (room - length t) ts h.1)
  | inr e ↦ rw e tt
]

-- ---- what a host sees of one window
none-joined : (ts : List (List ℕ)) → length ts ≡ 0 → joined ts ≡ []
none-joined [] h = refl
none-joined (t ∷ ts) h = absurd (omega arith)

fitting-none : (room : ℕ) (ts : List (List ℕ)) → length ts ≡ 0 → length (fitting room ts) ≡ 0
unfolding fitting
fitting-none room [] h = refl
fitting-none room (t ∷ ts) h = absurd (omega arith)

module _ (s : List ℕ) (first end : ℕ) (d : List ℕ) where
  shown : List (List ℕ)
  shown = shown_by (lines_of s) first end d

  front : take (length (joined shown)) (put d 0 (joined shown)) ≡ joined shown
  unfolding shown shown_by
  front =
      let fs = fitting (length d) (range first end (lines_of s)) in
      let e : length (joined fs) ≡ 0 + length (joined fs) = omega arith in
      ap (λ (k : ℕ). take k (put d 0 (joined fs))) e ∙ take_put d 0 (joined fs) (omega (arith, fitting-room (length d) (range first end (lines_of s))))

  none-shown : length (range first end (lines_of s)) ≡ 0 → joined shown ≡ []
  unfolding shown shown_by
  none-shown h = none-joined (fitting (length d) (range first end (lines_of s))) (fitting-none (length d) (range first end (lines_of s)) h)

  window-text : text_of (window_of (lines_of s) first end d) ≡ joined shown
  unfolding window_of shown shown_by
  window-text = front

  window-lines : (window_of (lines_of s) first end d).lines ≡ length shown
  unfolding window_of shown shown_by
  window-lines = refl

  text-ends : line_ends (joined shown) ≡ length shown
  unfolding shown shown_by
  text-ends =
      ends-joined shown
      (each-fitting (length d) (range first end (lines_of s))
      (each_take (end - first) (drop first (lines_of s)) (each-drop first (lines_of s) (lines-ends s))))

  of-text : Reply (List ℕ) → List ℕ
  of-text r = text_in (written_in d r)

  reply-text : of-text (window_text (lines_of s) first end (length d)) ≡ joined shown
  unfolding shown of-text
  reply-text = elim (which (leb (length (lines_of s)) first)) [
    | inl e ↦
        let h : length (lines_of s) ≤ first = leb-true _ _ e in
        let none : length (range first end (lines_of s)) ≡ 0 =
        omega (arith, length-take (end - first) (drop first (lines_of s)), length-drop first (lines_of s)) in
        ap of-text (text-beyond (lines_of s) first end d h) ∙ sym (none-shown none)
    | inr e ↦ inside (leb-false _ _ e)
  ] where
    inside : first < length (lines_of s) → of-text (window_text (lines_of s) first end (length d)) ≡ joined shown
    inside h = elim (which (leb end first)) [
      | inl e ↦
          let g : end ≤ first = leb-true _ _ e in
          let none : length (range first end (lines_of s)) ≡ 0 = omega (arith, length-take (end - first) (drop first (lines_of s))) in
          ap of-text (text-none (lines_of s) first end d h g) ∙ sym (none-shown none)
      | inr e ↦ asked h (leb-false _ _ e)
    ] where
      asked : first < length (lines_of s) → first < end → of-text (window_text (lines_of s) first end (length d)) ≡ joined shown
      asked i g = elim (which (leb (length shown) 0)) [
        | inl e ↦ let none : length shown ≡ 0 =
            (let z : length shown ≤ 0 = leb-true _ _ e in omega arith) in
            ap of-text (text-full (lines_of s) first end d i g none) ∙ sym (none-joined shown none)
        | inr e ↦ ap of-text (text-some (lines_of s) first end d i (leb-false _ _ e)) ∙ front
      ]

  module _ (a : Accepts s) where
    host-text : text_in (window_answer s first end d) ≡ text_of (window_of (lines_of s) first end d)
    unfolding of-text
    host-text =
        ap (λ (r : Reading). text_in (written_in d (and_then (reading_reply r) (λ ms. window_text (lines_of s) first end (length d))))) a
        ∙ reply-text ∙ sym window-text

    host-lines : first + line_ends (text_in (window_answer s first end d)) ≡ first + (window_of (lines_of s) first end d).lines
    host-lines = ap (λ (t : List ℕ). first + line_ends t) (host-text ∙ window-text) ∙ ap (λ (n : ℕ). first + n) (text-ends ∙ sym window-lines)

-- ---- one after the other
shown-following : (s : List ℕ) → Accepts s → (first : ℕ) (qs : List Request) → shown_from s first qs ≡ following (lines_of s) first qs
unfolding shown_from following
shown-following s a first [] = refl
shown-following s a first (q ∷ qs) =
    ap (λ (t : List ℕ). t ++ shown_from s (first + line_ends (text_in (window_answer s first q.end q.buffer))) qs)
    (host-text s first q.end q.buffer a)
    ∙ ap (λ (n : ℕ). text_of (window_of (lines_of s) first q.end q.buffer) ++ shown_from s n qs) (host-lines s first q.end q.buffer a)
    ∙ ap (λ (l : List ℕ). text_of (window_of (lines_of s) first q.end q.buffer) ++ l)
    (shown-following s a (first + (window_of (lines_of s) first q.end q.buffer).lines) qs)

fits-shows : (s : List ℕ) → Accepts s → (first : ℕ) (qs : List Request) → EachFits s first qs → EachShows (lines_of s) first qs
unfolding EachFits EachShows
fits-shows s a first [] h = tt
fits-shows s a first (q ∷ qs) h = (
  λ inside. let g = h.0 inside in gets-on (lines_of s) first q.end q.buffer g.0 inside g.1,
  fits-shows s a (first + (window_of (lines_of s) first q.end q.buffer).lines) qs
      (subst (λ (n : ℕ). EachFits s n qs) (host-lines s first q.end q.buffer a) h.1),
)

reached-following : (s : List ℕ) → Accepts s → (first : ℕ) (qs : List Request) → reached_from s first qs ≡ reached (lines_of s) first qs
unfolding reached_from reached
reached-following s a first [] = refl
reached-following s a first (q ∷ qs) =
    ap (λ (n : ℕ). reached_from s n qs) (host-lines s first q.end q.buffer a)
    ∙ reached-following s a (first + (window_of (lines_of s) first q.end q.buffer).lines) qs

pub host-windows : HostWindows
host-windows s qs a far =
    let e = reached-following s a 0 qs in
    shown-following s a 0 qs ∙ windows-joined (lines_of s) qs ∙ ap joined (take_all (reached (lines_of s) 0 qs) (lines_of s) (omega arith))

pub host-reaches : HostReaches
host-reaches s qs a h enough =
    let e = reached-following s a 0 qs in
    let g = reached-all (lines_of s) 0 qs (fits-shows s a 0 qs h) (omega arith) in
    omega arith
