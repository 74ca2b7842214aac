-- The lines of one message in a window. In the words of the code where a function is meant.
-- Assumes nothing.
use Prim.Native.Nat.{ℕ, suc, ◌+◌, ◌-◌, ◌<◌, ◌≤◌}
use mathlib.Core.Path.{◌≡◌, sym, ap, ◌∙◌}
use mathlib.Core.List.{List, []}
use native.Mathlib.Omega.{arith}
use lib.ListN.{length, take, drop, get_or, drop_of_length-le}
use Rattle.put.specs.Put.{joined}
use Rattle.windows.specs.declared.Progress.{Progress}
use Rattle.windows.specs.Windows.{texts}
use Rattle.windows.specs.Steps.{State, within, state, step, steps}
use Rattle.windows.proofs.Stepping.{at-skip, steps-over, steps-into, steps-done, steps-turn, length-texts, get_or-texts}
use Rattle.lines.specs.Lines.{message_lines}
use Rattle.lines.specs.Fit.{shape_in, lines_in, LineIs}

-- a line that stands in an array
pub line-put : (x : State) (t : State) (k : ℕ) (lent out : List ℕ) (l : List (List ℕ)) → LineIs k lent out l → x ≡ step t (take k out)
    → x ≡ step t (joined l)
line-put x t k lent out l i e = e ∙ ap (step t) i.is

-- the lines of one message, in the words of `show_message` and `show_lines`: n is their number, x what they come to
module _ (place : ℕ) (m : List ℕ) (n : ℕ) (count : n ≡ 1 + length (lines_in (shape_in m) m)) where
  own : List (List ℕ)
  own = texts (message_lines place m)

  length-own : n ≡ length own
  unfolding own message_lines
  length-own = count ∙ sym (length-texts (message_lines place m) ∙ more) where
    more : suc (length (lines_in (shape_in m) m)) ≡ 1 + length (lines_in (shape_in m) m)
    more = omega arith

  module _ (p : Progress) (d : List ℕ) (some : p.left ≡ 0 → ⊥) where
    pub over-all : n ≤ p.skip → state (p.skip - n) p.left p.lines p.octets d ≡ steps (texts (message_lines place m)) (within p d)
    unfolding own
    over-all h = ap (λ (k : ℕ). within (at-skip p (p.skip - k)) d) length-own ∙ steps-over own p.skip p d some (omega (arith, length-own))

    pub into-all : p.skip < n → (x : State) → x ≡ steps (drop p.skip (texts (message_lines place m))) (state 0 p.left p.lines p.octets d)
        → x ≡ steps (texts (message_lines place m)) (within p d)
    unfolding own
    into-all h x e = e ∙ sym (steps-into own p.skip p d some (omega (arith, length-own)))

  module _ (x : State) (i : ℕ) (q : Progress) (e : List ℕ) (inv : x ≡ steps (drop i (texts (message_lines place m))) (within q e)) where
    pub lines-done : q.left ≡ 0 → within q e ≡ x
    lines-done z = steps-done (drop i (texts (message_lines place m))) q e z ∙ sym inv

    pub lines_end : n ≤ i → within q e ≡ x
    unfolding own steps
    lines_end h = sym (inv ∙ ap (λ (ts : List (List ℕ)). steps ts (within q e)) (drop_of_length-le own {i = i} (omega (arith, length-own))))

    pub lines-turn : i < n → (q' : Progress) (e' : List ℕ) → within q' e' ≡ step (within q e) (joined (get_or (message_lines place m) i []))
        → x ≡ steps (drop (i + 1) (texts (message_lines place m))) (within q' e')
    unfolding own
    lines-turn h q' e' s =
        inv ∙ steps-turn own i (within q e) (omega (arith, length-own))
        ∙ ap (steps (drop (i + 1) own)) (ap (step (within q e)) (get_or-texts (message_lines place m) i) ∙ sym s)

pub ruleset lines = (steps-done, over-all, into-all, lines-done, lines_end, lines-turn)
