-- Elements in elements. Request C-16: "element by element, outside in, front to back, each with all it holds before the next".
--
-- Glossary
--   within t p body s   the element at the front of the holder s, whose contents `body` reads
--   closed s a          a, where nothing is left over in s
--   only t p body s     the same element, where it is alone in its holder
--   starts t s          the holder s begins with the octet t
--   sole u p s          the contents of the element u, alone in the holder s
--   field t u p s       the element t, in which the element u stands alone; optional: where it is there
--   field_octets t u c  the octets of such a field with the contents c, where it is there
use Rattle.std.specs.Prelude.{ℕ, Bool, false, cond, List, [], ◌∷◌, eqb}
use Rattle.std.proofs.Math.Option.{Option, none, some}
use Rattle.der.specs.Got.{Got, ok, no, bind}
use Rattle.der.specs.Element.{Part, element, cut, any}

-- "each with all it holds before the next"
unfoldable pub within : {A : Type 0} → ℕ → (List ℕ → Bool) → (List ℕ → Got A) → List ℕ → Got (Part A)
within t p body s = bind (cut t p s) (λ q. bind (body q.value) (λ a. ok (record { value = a; rest = q.rest })))

-- "22 octets left over, once all before them is read"
unfoldable pub closed : {A : Type 0} → List ℕ → A → Got A
closed [] a = ok a
closed (x ∷ s) a = no 22

unfoldable pub only : {A : Type 0} → ℕ → (List ℕ → Bool) → (List ℕ → Got A) → List ℕ → Got A
only t p body s = bind (within t p body s) (λ q. closed q.rest q.value)

unfoldable pub starts : ℕ → List ℕ → Bool
starts t [] = false
starts t (x ∷ s) = eqb x t

abbrev pub sole : ℕ → (List ℕ → Bool) → List ℕ → Got (Option (List ℕ))
sole u p = only u p (λ c. ok (some c))

unfoldable pub field : ℕ → ℕ → (List ℕ → Bool) → List ℕ → Got (Part (Option (List ℕ)))
field t u p s = within t any (sole u p) s

unfoldable pub optional : ℕ → ℕ → (List ℕ → Bool) → List ℕ → Got (Part (Option (List ℕ)))
optional t u p s = cond (starts t s) (field t u p s) (ok (record { value = none; rest = s }))

unfoldable pub field_octets : ℕ → ℕ → Option (List ℕ) → List ℕ
field_octets t u none = []
field_octets t u (some c) = element t (element u c)
