-- A closure's calls, one for each line: those that are still to come make up those from the first line on.
-- Assumes nothing.
use Rattle.std.proofs.Common.{◌≡◌, ℕ, List, [], ◌∷◌, refl, sym, Bor}
use mathlib.Core.Path.{subst}
use Rattle.std.specs.List.{FoldsTo}
use Rattle.std.specs.Fn.{Mut, Called}
use Rattle.text_lines.specs.Lines.{lines, CallsAt, CallsEach}

module _ {F : Type 0} (g : Mut F (Bor (List ℕ) × Unit {0}) (Unit {0})) (text : List ℕ) (first : F) where
  -- the closure is at f, and what is left of the text is `rest`
  abbrev pub Left : F → List ℕ → Type 0
  Left f rest = (last : F) → FoldsTo (CallsAt g) f (lines rest) last → FoldsTo (CallsAt g) first (lines text) last

  pub one-more : (f f' : F) (rest behind : List ℕ) (line : Bor (List ℕ)) → Left f rest → lines rest ≡ line.now ∷ lines behind
      → Called g f (line, tt) tt f' → Left f' behind
  one-more f f' rest behind line left e called last h =
      left last (subst (λ (ls : List (List ℕ)). FoldsTo (CallsAt g) f ls last) (sym e) (f', record { shown = line; shows = refl; called = called }, h))

  pub done : (f : F) (rest : List ℕ) → Left f rest → rest ≡ [] → CallsEach g first (lines text)
  unfolding lines
  done f rest left e = (f, left f (subst (λ (s : List ℕ). FoldsTo (CallsAt g) f (lines s) f) (sym e) refl))
