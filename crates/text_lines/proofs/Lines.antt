-- The first line of a text ends where its first line end stands.
-- Assumes nothing.
use Rattle.std.proofs.Common.{◌≡◌, ℕ, suc, ◌+◌, ◌<◌, ◌-◌, List, [], ◌∷◌, length, take, drop, drop_of_length-le, length-take, length-drop, take_all, refl, sym, ap, ◌∙◌, arith, add-one}
use mathlib.Core.Bool.{Bool, true, false, cond}
use lib.Dec.{eqb}
use Rattle.scan.specs.Scan.{slice, index_after, index_of}
use Rattle.text_lines.specs.Lines.{behind, lines, first_line}

pub first-line : (s : List ℕ) → 0 < length s → lines s ≡ take (index_of 10 s) s ∷ lines (drop (suc (index_of 10 s)) s)
unfolding lines behind index_of index_after
first-line [] h = absurd (omega (arith, h))
first-line (x ∷ s) h = go (eqb x 10) s (first-line s) where
  go : (b : Bool) (s : List ℕ) → (0 < length s → lines s ≡ take (index_of 10 s) s ∷ lines (drop (suc (index_of 10 s)) s))
      → cond b ([] ∷ lines s) (behind x (lines s)) ≡ take (index_after b (index_of 10 s)) (x ∷ s) ∷ lines (drop (suc (index_after b (index_of 10 s))) (x ∷ s))
  go true s ih = refl
  go false [] ih = refl
  go false (y ∷ s) ih = ap (behind x) (ih (omega arith))

-- a line that ends at e, and what stands behind it, from b on
module _ (s : List ℕ) (e : ℕ) (some : 0 < length s) (at : e ≡ 0 + index_of 10 (slice 0 (length s) s)) where
  abbrev from : ℕ → List ℕ
  from b = take (length s - b) (drop b s)

  is-from : (b : ℕ) → from b ≡ drop b s
  is-from b = take_all _ _ (simp length-drop (omega arith))

  first : lines s ≡ take e s ∷ lines (drop (suc e) s)
  unfolding slice
  first =
      let z : 0 + index_of 10 s ≡ index_of 10 s = omega arith in
      let a : index_of 10 s ≡ e = sym (at ∙ ap (λ (l : List ℕ). 0 + index_of 10 l) (take_all (length s) s (omega arith)) ∙ z) in
      rw (← a) (first-line s some)

  pub shorter : (b : ℕ) → 0 < b → length (from b) < length s
  shorter b h = simp (length-take, length-drop) (omega arith)

  pub last-line : e ≡ length s → (lines s ≡ s ∷ lines (from e)) × (length (from e) < length s)
  last-line h =
      let a : take e s ≡ s = take_all e s (omega arith) in
      let b : drop (suc e) s ≡ [] = drop_of_length-le s {i = suc e} (omega arith) in
      let c : drop e s ≡ [] = drop_of_length-le s {i = e} (omega arith) in
      (first ∙ rw (a, b, is-from e, c) refl, shorter e (omega arith))

  pub line-behind : (lines s ≡ take e s ∷ lines (from (e + 1))) × (length (from (e + 1)) < length s)
  line-behind = (rw (is-from (e + 1), add-one) first, shorter (e + 1) (omega arith))

pub no-line : (s : List ℕ) → s ≡ [] → s ≡ first_line s
unfolding lines
no-line s e = e ∙ ap first_line (sym e)
