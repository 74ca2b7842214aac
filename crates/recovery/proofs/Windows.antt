-- The lines of a file, one by one, are its window. In the words of `window`.
-- Assumes nothing.
use Prim.Native.Nat.{ℕ, ◌<◌, ◌≤◌}
use mathlib.Core.Path.{◌≡◌, sym, ap, ◌∙◌}
use mathlib.Core.List.{List, [], ◌∷◌}
use lib.ListN.{length}
use borrow.Author.Tests.{lt-leb}
use Rattle.put.specs.Put.{joined}
use Rattle.lines.specs.Lines.{end_line, refused_line}
use Rattle.windows.specs.declared.Progress.{Progress}
use Rattle.windows.specs.declared.Shown.{Shown}
use Rattle.windows.specs.Windows.{texts, as_window, window_of}
use Rattle.windows.specs.Steps.{State, within, start_of, step, steps, shown_so_far, Going}
use Rattle.windows.proofs.Stepping.{steps-append, went}
use Rattle.windows.proofs.Windows.{window-is}
use Rattle.recovery.specs.declared.Scan.{Scan}
use Rattle.recovery.specs.Recovery.{taken_of, pieces_of, all_piece_lines, recovery_lines, recovered_lines}
use Rattle.recovery.specs.Scans.{ShowsPieces}
use Rattle.recovery.proofs.Tails.{lines-short}

lines_long : (s : List ℕ) → 65535 < length s → recovered_lines s ≡ joined (refused_line 1 0) ∷ []
unfolding recovered_lines recovery_lines texts
lines_long s h = rw (lt-leb _ _ h)

module _ (file : List ℕ) (from end : ℕ) (d : List ℕ) (p : Progress) (p-is : p ≡ start_of from end) where
  pub window-refused : 65535 < length file → (n : ℕ) → n ≡ 1 → (t : Progress) (d' : List ℕ)
      → within t d' ≡ step (within p d) (joined (refused_line n 0)) → (x : Shown)
      → x ≡ shown_so_far t → as_window x d' ≡ window_of (recovered_lines file) from end d
  unfolding steps
  window-refused h n n-is t d' b x c =
      window-is (recovered_lines file) from end d p t d' p-is
      (b ∙ ap (λ (k : ℕ). step (within p d) (joined (refused_line k 0))) n-is
      ∙ sym (ap (λ (l : List (List ℕ)). steps l (within p d)) (lines_long file h))) x c

  pub window-pieces : length file ≤ 65535 → (s : Scan) (e : List ℕ) → ShowsPieces file (within p d) s e → (t : Progress) (d' : List ℕ)
      → within t d' ≡ step (within s.progress e) (joined (end_line s.taken (length file))) → (x : Shown) → x ≡ shown_so_far t
      → as_window x d' ≡ window_of (recovered_lines file) from end d
  unfolding steps
  window-pieces h s e shown t d' b x c =
      window-is (recovered_lines file) from end d p t d' p-is
      (b ∙ ap (λ (k : ℕ). step (within s.progress e) (joined (end_line k (length file)))) shown.counts
      ∙ ap (λ (u : State). step u (joined (end_line (length (taken_of file)) (length file)))) shown.shows
      ∙ sym (ap (λ (l : List (List ℕ)). steps l (within p d)) (lines-short file h)
      ∙ steps-append (texts (all_piece_lines (pieces_of file))) (joined (end_line (length (taken_of file)) (length file)) ∷ []) (within p d)))
      x c

pub pieces-going : (file : List ℕ) (p : Progress) (d : List ℕ) (s : Scan) (e : List ℕ) → ShowsPieces file (within p d) s e → Going p (length d)
    → Going s.progress (length e)
pieces-going file p d s e shown g = went p s.progress d e (texts (all_piece_lines (pieces_of file))) shown.shows g

pub ruleset windows = (window-refused, window-pieces)
