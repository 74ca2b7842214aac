-- Elements written: their heads, and how many octets they have.
--
-- Glossary
--   head t n        the tag t and the length n
--   head_size n     how many octets the head of n octets has; element_size n: those of an element with contents of n octets
--   given b v       the field with the octets v, where b says that it is there
--   field_size b n  how many octets a field has that is there, or not, with contents of n octets
use Rattle.std.specs.Prelude.{ℕ, ◌+◌, Bool, true, false, cond, List, ◌∷◌, ltb}
use Rattle.std.proofs.Math.Option.{Option, none, some}
use Rattle.der.specs.Element.{length_of}

abbrev pub head : ℕ → ℕ → List ℕ
head t n = t ∷ length_of n

unfoldable pub head_size : ℕ → ℕ
head_size n = cond (ltb n 128) 2 (cond (ltb n 256) 3 4)

abbrev pub element_size : ℕ → ℕ
element_size n = head_size n + n

abbrev pub given : Bool → List ℕ → Option (List ℕ)
given true v = some v
given false v = none

abbrev pub field_size : Bool → ℕ → ℕ
field_size true n = element_size (element_size n)
field_size false n = 0
