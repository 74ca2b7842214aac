-- Looking an octet up.
--   slice        a list from a place on and before another
--   index_after  the index of an octet in a list with one element more in front, from whether that is the octet
--   index_of     the index at which an octet stands first; the list's length, where it stands at none
use Rattle.std.specs.Prelude.{ℕ, suc, Bool, true, false, List, [], ◌∷◌, take, drop, ◌==◌}

unfoldable pub slice : {A : Type 0} → ℕ → ℕ → List A → List A
slice from to s = drop from (take to s)

unfoldable pub index_after : Bool → ℕ → ℕ
index_after true n = 0
index_after false n = suc n

unfoldable pub index_of : ℕ → List ℕ → ℕ
index_of octet [] = 0
index_of octet (x ∷ s) = index_after (x == octet) (index_of octet s)
