-- Each line as the calls that write it, one after the other, in the words of the code: t is the text before, u the text after.
-- Assumes nothing.
use Prim.Native.Nat.{ℕ}
use mathlib.Core.Path.{◌≡◌, refl}
use mathlib.Core.Bool.{Bool, true, false}
use mathlib.Core.List.{List, [], ◌∷◌}
use Rattle.std.specs.Prelude as std
use Rattle.text.specs.Text.{quoted, decimal, decimal64, id_text, Text, written}
use Rattle.text.proofs.Pieces.{then}
use Rattle.sides.specs.Replay.{Whose, initiator, acceptor, finished, refused, unopened}
use Rattle.replay_lines.specs.Lines.{side_text, turn_line, choice_as, choice_line, refused_line, end_lines}

module _ (k : ℕ) (x : Bool) (t a u : Text) (first : a ≡ written (quoted "turn " ∷ decimal k ∷ []) t) where
  pub turn-acceptor : x ≡ true → u ≡ written (side_text acceptor ∷ []) a → u ≡ written (turn_line k x) t
  unfolding turn_line
  turn-acceptor h e = rw h (then t a u _ _ first e)

  pub turn-initiator : x ≡ false → u ≡ written (side_text initiator ∷ []) a → u ≡ written (turn_line k x) t
  unfolding turn_line
  turn-initiator h e = rw h (then t a u _ _ first e)

pub ruleset turns = (turn-acceptor, turn-initiator)

module _ (o : std.Option (List ℕ)) (t u : Text) where
  pub choice-none : o ≡ std.None → u ≡ written (quoted "choice none\n" ∷ []) t → u ≡ written (choice_line (choice_as o)) t
  unfolding choice_line
  choice-none h e = rw h e

  pub choice-some : (i : List ℕ) → o ≡ std.Some i → (a b : Text) → a ≡ written (quoted "choice " ∷ []) t → b ≡ written (id_text i) a
      → u ≡ written (quoted "\n" ∷ []) b
      → u ≡ written (choice_line (choice_as o)) t
  unfolding choice_line
  choice-some i h a b f g k = rw h (then t a u _ _ f (then a b u _ _ g k))

pub ruleset choices = (choice-none, choice-some)

pub refusal_is : (n p : ℕ) (w : Whose) (t a b u : Text) → a ≡ written (quoted "refused " ∷ decimal n ∷ []) t
    → b ≡ written (quoted " at=" ∷ decimal64 p ∷ []) a
    → u ≡ written (side_text w ∷ []) b → u ≡ written (refused_line n p w) t
unfolding refused_line
refusal_is n p w t a b u f g h = then t b u _ _ (then t a b _ _ f g) h

module _ (t u : Text) where
  pub end-unopened : u ≡ written (quoted "no file\n" ∷ []) t → u ≡ written (end_lines unopened) t
  unfolding end_lines
  end-unopened e = e

  pub end_refused : (n p : ℕ) (w : Whose) → u ≡ written (refused_line n p w) t → u ≡ written (end_lines (refused n p w)) t
  unfolding end_lines
  end_refused n p w e = e

pub end-finished : (t : Text) → t ≡ written (end_lines finished) t
unfolding end_lines written
end-finished t = refl
