-- The lines of a token, one by one, are its window: the two answers of the structural reading. In the words of `window`.
-- Assumes nothing.
use Prim.Native.Nat.{ℕ}
use mathlib.Core.Path.{◌≡◌, sym, ap, ◌∙◌}
use mathlib.Core.List.{List, [], ◌∷◌, ◌++◌}
use lib.ListN.{length}
use Rattle.std.proofs.Common.{Result, Ok, Err}
use Rattle.refusal.specs.Refusals.{number_of}
use Rattle.token.specs.declared.Refused.{Refused}
use Rattle.token.specs.Token.{Reading, token_of, outcome_of, told}
use Rattle.token.specs.Walk.{messages_of}
use Rattle.token.proofs.Walks.{answer-accepts, answer-number, answer-refuses}
use Rattle.put.specs.Put.{joined}
use Rattle.lines.specs.Lines.{end_line, refused_line}
use Rattle.windows.specs.declared.Progress.{Progress}
use Rattle.windows.specs.declared.Shown.{Shown}
use Rattle.windows.specs.Windows.{texts, as_window, window_of}
use Rattle.windows.specs.Steps.{State, within, start_of, step, steps, shown_so_far}
use Rattle.windows.proofs.Stepping.{steps-append, texts-append}
use Rattle.windows.proofs.Windows.{window-is, start-going}
use Rattle.listing.specs.Listing.{all_lines, reading_lines, lines_of}

module _ (s : List ℕ) (r : Result ℕ Refused) (r-is : told r ≡ outcome_of (token_of s)) where
  module _ (n : ℕ) (here : r ≡ Ok n) where
    lines_are : lines_of s ≡ texts (all_lines (messages_of (token_of s))) ++ (joined (end_line n (length s)) ∷ [])
    unfolding lines_of reading_lines texts
    lines_are =
        ap (λ (x : Reading). texts (reading_lines x (length s))) (answer-accepts s r r-is n here)
        ∙ texts-append (all_lines (messages_of (token_of s))) (end_line (length (messages_of (token_of s))) (length s) ∷ [])
        ∙ ap (λ (k : ℕ). texts (all_lines (messages_of (token_of s))) ++ (joined (end_line k (length s)) ∷ [])) (answer-number s r r-is n here)

    module _ (from end : ℕ) (d : List ℕ) (p : Progress) (p-is : p ≡ start_of from end) where
      pub window-messages : (q t : Progress) (e d' : List ℕ) → within q e ≡ steps (texts (all_lines (messages_of (token_of s)))) (within p d)
          → within t d' ≡ step (within q e) (joined (end_line n (length s))) → (x : Shown) → x ≡ shown_so_far t
          → as_window x d' ≡ window_of (lines_of s) from end d
      unfolding steps
      window-messages q t e d' a b x c =
          window-is (lines_of s) from end d p t d' p-is
          (b ∙ ap (λ (u : State). step u (joined (end_line n (length s)))) a
          ∙ sym (ap (λ (ts : List (List ℕ)). steps ts (within p d)) lines_are
          ∙ steps-append (texts (all_lines (messages_of (token_of s)))) (joined (end_line n (length s)) ∷ []) (within p d)))
          x c

  pub window-refused : (f : Refused) → r ≡ Err f → (n : ℕ) → n ≡ number_of f.refusal
      → (from end : ℕ) (d : List ℕ) (p : Progress) → p ≡ start_of from end
      → (t : Progress) (d' : List ℕ) → within t d' ≡ step (within p d) (joined (refused_line n f.place.0)) → (x : Shown) → x ≡ shown_so_far t
      → as_window x d' ≡ window_of (lines_of s) from end d
  unfolding steps
  window-refused f here n n-is from end d p p-is t d' b x c =
      window-is (lines_of s) from end d p t d' p-is (b ∙ sym (ap (λ (ts : List (List ℕ)). steps ts (within p d)) line-is)) x c where
        line-is : lines_of s ≡ joined (refused_line n f.place.0) ∷ []
        line-is = unfold lines_of reading_lines texts in
            ap (λ (y : Reading). texts (reading_lines y (length s))) (answer-refuses s r r-is f here)
            ∙ ap (λ (k : ℕ). joined (refused_line k f.place.0) ∷ []) (sym n-is)

pub ruleset windows = (answer-accepts, window-messages, window-refused, start-going)
