-- A message's fields and a vector's place, in the words of the code.
-- Assumes nothing.
use Prim.Native.Nat.{ℕ, ◌+◌}
use mathlib.Core.Path.{◌≡◌, sym, ◌∙◌}
use mathlib.Core.List.{List, [], ◌∷◌}
use borrow.Author.Tests.{eq-eqb, ne_eqb}
use Rattle.octets.specs.Octets.{le}
use Rattle.vector.specs.declared.Vector.{Vector}
use Rattle.vector.specs.Vector.{extent}
use Rattle.message.specs.Layout.{head_of}
use Rattle.table.specs.Table.{placed_at, fields_in, vector_place}

pub fields-are : (p : ℕ) (m : List ℕ) (a b c d : ℕ) → a ≡ le 4 m 8 → b ≡ le 4 m 12 → c ≡ le 4 m 16 → d ≡ le 4 m 20
    → p ∷ a ∷ b ∷ c ∷ d ∷ [] ≡ fields_in (placed_at p m)
unfolding head_of
fields-are p m a b c d ea eb ec ed = rw (ea, eb, ec, ed)

module _ (p : ℕ) (v : Vector) (n : ℕ) (n-is : n ≡ extent v) where
  pub empty-place : n ≡ 0 → p ≡ vector_place p v
  unfolding vector_place
  empty-place z = simp (eq-eqb (extent v) 0 (sym n-is ∙ z))

  pub other_place : (n ≡ 0 → ⊥) → (q : ℕ) → q ≡ p + v.offset.0 → q ≡ vector_place p v
  unfolding vector_place
  other_place h q e = e ∙ simp (ne_eqb (extent v) 0 (λ z. h (n-is ∙ z)))

pub ruleset spans = (fields-are, empty-place, other_place)
