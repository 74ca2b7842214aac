-- A window's answer, from the lines and octets that it shows. In the words of the code.
-- Assumes nothing.
use Prim.Native.Nat.{ℕ, ◌+◌, ◌-◌, ◌*◌, ◌<◌, ◌≤◌, ◌^◌}
use mathlib.Core.Path.{◌≡◌, sym, ap, ◌∙◌}
use mathlib.Core.Bool.{cond}
use mathlib.Core.Logic.{inl, inr}
use mathlib.Core.List.{List, [], ◌∷◌}
use native.Mathlib.Omega.{arith}
use lib.ListN.{length, drop, get_or, length-take}
use lib.Seq.{get_or-take, get_or-drop}
use lib.Dec.{leb, ltb}
use lib.IntN.{pos, neg_ℤ}
use borrow.Author.Tests.{leb-true, leb-false, le-leb, lt-leb, lt-ltb, le-ltb}
use Rattle.octets.proofs.Bools.{which}
use Rattle.token.specs.Token.{Reading, token_of}
use Rattle.token.specs.Walk.{messages_of, Accepts}
use Rattle.put.specs.Put.{joined, put}
use Rattle.put.proofs.Laws.{put-none}
use Rattle.windows.specs.declared.Shown.{Shown}
use Rattle.windows.specs.Windows.{fitting, range, Window, as_window, window_of}
use Rattle.windows.proofs.Covers.{gets-on, window-octets}
use Rattle.listing.specs.Listing.{all_lines, lines_of}
use Rattle.replies.specs.Replies.{Reply, given, refused, and_then, reading_reply, fits, lent, written_in}
use Rattle.host.specs.Host.{window_text, window_answer}
use Rattle.replies.proofs.Messages.{item-given, item_refused}
use Rattle.host.proofs.Counting.{lines-number}

-- ---- the text of a window of any lines
-- where something fits, the first line does
head-fits : (room : ℕ) (ls : List (List ℕ)) → 0 < length (fitting room ls) → length (get_or ls 0 []) ≤ room
unfolding fitting
head-fits room [] h = absurd (omega arith)
head-fits room (l ∷ ls) h = elim (which (leb (length l) room)) [
  | inl e ↦ leb-true _ _ e
  | inr e ↦ absurd (omega (arith, rw e at h))
]

fitting-few : (room : ℕ) (ls : List (List ℕ)) → 0 < length (fitting room ls) → 0 < length ls
unfolding fitting
fitting-few room [] h = h
fitting-few room (l ∷ ls) h = omega arith

module _ (ls : List (List ℕ)) (first end : ℕ) (d : List ℕ) where
  unfoldable pub shown_by : List (List ℕ)
  shown_by = fitting (length d) (range first end ls)

  pub text-beyond : length ls ≤ first → window_text ls first end (length d) ≡ refused 19
  text-beyond h =
      ap (λ (x : Reply (List ℕ)). and_then x
      (λ l. cond (ltb first end) (and_then (fits (length d) l) (λ v. given (joined (fitting (length d) (range first end ls))))) (given [])))
      (item_refused ls first h)

  module _ (inside : first < length ls) where
    here : window_text ls first end (length d) ≡ cond (ltb first end)
        (and_then (fits (length d) (get_or ls first [])) (λ v. given (joined (fitting (length d) (range first end ls))))) (given [])
    here = ap (λ (x : Reply (List ℕ)). and_then x
        (λ l. cond (ltb first end) (and_then (fits (length d) l) (λ v. given (joined (fitting (length d) (range first end ls))))) (given [])))
        (item-given ls first [] inside)

    pub text-none : end ≤ first → window_text ls first end (length d) ≡ given []
    text-none h = here ∙ simp (le-ltb _ _ h)

    pub text-full : first < end → length shown_by ≡ 0 → window_text ls first end (length d) ≡ refused 16
    unfolding shown_by window_of
    text-full h none = here ∙ simp (lt-ltb _ _ h, lt-leb _ _ small) where
      small : length d < length (get_or ls first [])
      small = elim (which (leb (length (get_or ls first [])) (length d))) [
        | inl e ↦ absurd (omega (arith, gets-on ls first end d h inside (leb-true _ _ e)))
        | inr e ↦ leb-false _ _ e
      ]

    pub text-some : 0 < length shown_by → window_text ls first end (length d) ≡ given (joined shown_by)
    unfolding shown_by
    text-some some =
        let asked : first < end = omega (arith, fitting-few (length d) (range first end ls) some, length-take (end - first) (drop first ls)) in
        let e : first + 0 ≡ first = omega arith in
        let is : get_or (range first end ls) 0 [] ≡ get_or ls first [] =
        get_or-take (end - first) (drop first ls) 0 [] (omega arith) ∙ get_or-drop first ls 0 [] ∙ ap (λ (k : ℕ). get_or ls k []) e in
        let room : length (get_or ls first []) ≤ length d = omega (arith, ap length is, head-fits (length d) (range first end ls) some) in
        here ∙ simp (lt-ltb _ _ asked, le-leb _ _ room)

-- ---- the answers of `show_window`; n is the number of the messages' lines
module _ (s : List ℕ) (a : Accepts s) (n : ℕ) (n-is : n ≡ length (all_lines (messages_of (token_of s)))) (first end : ℕ) (d : List ℕ) where
  answer-is : written_in d (window_text (lines_of s) first end (length d)) ≡ window_answer s first end d
  answer-is = sym (ap (λ (r : Reading). written_in d (and_then (reading_reply r) (λ ms. window_text (lines_of s) first end (length d)))) a)

  pub window-beyond : n < first → lent (neg_ℤ (pos 19)) d ≡ window_answer s first end d
  window-beyond h =
      sym (ap (written_in d) (text-beyond (lines_of s) first end d (omega (arith, lines-number s a))))
      ∙ answer-is

  module _ (inside : first ≤ n) (w : Shown) (d' : List ℕ) (w-is : as_window w d' ≡ window_of (lines_of s) first end d) where
    held : first < length (lines_of s)
    held = omega (arith, lines-number s a)

    lines_are : w.lines ≡ length (shown_by (lines_of s) first end d)
    unfolding window_of shown_by
    lines_are = ap (λ (x : Window). x.lines) w-is

    octets-are : w.octets ≡ length (joined (shown_by (lines_of s) first end d))
    unfolding window_of shown_by
    octets-are = ap (λ (x : Window). x.octets) w-is

    buffer-is : d' ≡ put d 0 (joined (shown_by (lines_of s) first end d))
    unfolding window_of shown_by
    buffer-is = ap (λ (x : Window). x.buffer) w-is

    pub window-some : (w.lines ≡ 0 → ⊥) → lent (pos w.octets) d' ≡ window_answer s first end d
    window-some h =
        ap (λ (x : ℕ). lent (pos x) d') octets-are
        ∙ ap (lent (pos (length (joined (shown_by (lines_of s) first end d))))) buffer-is
        ∙ sym (ap (written_in d) (text-some (lines_of s) first end d held (omega (arith, lines_are))))
        ∙ answer-is

    module _ (none : w.lines ≡ 0) where
      unchanged : d' ≡ d
      unchanged = go (shown_by (lines_of s) first end d) (sym lines_are ∙ none) buffer-is where
        go : (ls : List (List ℕ)) → length ls ≡ 0 → d' ≡ put d 0 (joined ls) → d' ≡ d
        go [] h e = e ∙ put-none d 0
        go (l ∷ ls) h e = absurd (omega arith)

      pub window-full : first < end → lent (neg_ℤ (pos 16)) d' ≡ window_answer s first end d
      window-full h =
          ap (lent (neg_ℤ (pos 16))) unchanged
          ∙ sym (ap (written_in d) (text-full (lines_of s) first end d held h (sym lines_are ∙ none)))
          ∙ answer-is

      pub window-none : end ≤ first → lent (pos 0) d' ≡ window_answer s first end d
      window-none h =
          ap (lent (pos 0)) (unchanged ∙ sym (put-none d 0))
          ∙ sym (ap (written_in d) (text-none (lines_of s) first end d held h))
          ∙ answer-is

pub window-small : (s : List ℕ) (first end : ℕ) (d d' : List ℕ) (w : Shown) → as_window w d' ≡ window_of (lines_of s) first end d → length d * 1 < 2 ^ 63
    → w.octets < 2 ^ 63
window-small s first end d d' w is h = omega (arith, window-octets (lines_of s) first end d d' w is)

pub ruleset windows = (window-beyond, window-some, window-full, window-none, window-small)
