-- Extensions and alerts as octets: an array of elements, and their values behind it. Document 01, "Layouts", and C-22 of document 02.
-- `Elements` is the struct of src/, as a caller hands extensions or alerts over: their number, their types and the sizes of their values. All values come
-- joined in one lent slice.
--
-- Glossary
--   Item                  an extension or an alert to write: its type, as a 32-bit number, and its value
--   offset_of n p         the stored offset of what has n octets or elements and stands at p: 0 where it is empty
--   element_fields t p n  the fields of one element of type t, whose value of n octets stands at p
--   array_of p xs         the octets of the array of xs, whose first value stands at p
--   item_values xs        the values of xs, in order
--   item_octets p xs      the octets of xs at p: the array, and the values behind it; items_size xs: how many they are
--   small_values xs       no value has more than 4,096 octets; items_fit xs: nor are there more than 8 of them
--   ordinary xs           no type is critical
--   items_of e v          what is handed over as e and the lent octets v; items_from: n of them from place i on, their values from `at` on
--   sum_from, small_from  of n sizes from place i on: their sum, and that none is above 4,096
--   array_from            the array of what is handed over, which needs types and sizes alone: n elements from place i on, the first value standing at p
--   elements_fit e v      what is handed over keeps its limits (25)
--   handed_size e v       how many octets they are written as, array and values; 0 where they break their limits
--   types_ordinary e      no type handed over is critical (26); ordinary_from: of n types from place i on
--   no_elements           nothing handed over
--   pulse_value           the value of a pulse; pulses: one alert, a pulse; pulse_elements: as it is handed over, with that value lent
--   HandedWhole           what keeps its limits is a list that keeps them: of so many items, whose values joined are the lent octets
--   TypesAlone            whether an item is critical is known from the types alone
use Rattle.std.specs.Prelude.{◌≡◌, ℕ, zero, suc, ◌+◌, ◌*◌, Bool, true, cond, not, ◌&&◌, List, [], ◌∷◌, ◌++◌, length, get_or, take, drop, leb, eqb}
use Rattle.octets.specs.Octets.{signed32, negative}
use Rattle.put.specs.Put.{octets_of, joined}
use Rattle.elements.specs.declared.Elements.{Elements}

pub record Item : Type 0 where
  pub type : ℕ
  pub value : List ℕ

-- "an empty array or value has offset 0 and size 0"
unfoldable pub offset_of : ℕ → ℕ → ℕ
offset_of zero p = 0
offset_of (suc n) p = p

-- "extension 12 (type 4, octet vector 8); alert 12 (the same shape)"
abbrev pub element_fields : ℕ → ℕ → ℕ → List (List ℕ)
element_fields type p n = octets_of 4 type ∷ octets_of 4 (offset_of n p) ∷ octets_of 4 n ∷ []

abbrev pub array_of : ℕ → List Item → List ℕ
array_of p [] = []
array_of p (x ∷ xs) = joined (element_fields x.type p (length x.value)) ++ array_of (p + length x.value) xs

abbrev pub item_values : List Item → List (List ℕ)
item_values [] = []
item_values (x ∷ xs) = x.value ∷ item_values xs

-- "values after the array, in order, without gaps"
unfoldable pub item_octets : ℕ → List Item → List ℕ
item_octets p xs = array_of (p + 12 * length xs) xs ++ joined (item_values xs)

abbrev pub items_size : List Item → ℕ
items_size xs = 12 * length xs + length (joined (item_values xs))

-- "up to 8 extensions with values of up to 4,096 octets"
abbrev pub small_values : List Item → Bool
small_values [] = true
small_values (x ∷ xs) = leb (length x.value) 4096 && small_values xs

unfoldable pub items_fit : List Item → Bool
items_fit xs = leb (length xs) 8 && small_values xs

-- "Every negative extension type is critical."
abbrev pub ordinary : List Item → Bool
ordinary [] = true
ordinary (x ∷ xs) = not (negative (signed32 x.type)) && ordinary xs

-- Each value is as many of the lent octets as its size says, from where the one before it ends.
abbrev pub items_from : ℕ → ℕ → ℕ → List ℕ → List ℕ → List ℕ → List Item
items_from zero i at types sizes v = []
items_from (suc n) i at types sizes v =
    record { type = get_or types i 0; value = take (get_or sizes i 0) (drop at v) }
    ∷ items_from n (i + 1) (at + get_or sizes i 0) types sizes v

unfoldable pub items_of : Elements → List ℕ → List Item
items_of e v = items_from e.count 0 0 e.types e.sizes v

unfoldable pub sum_from : ℕ → ℕ → List ℕ → ℕ
sum_from zero i sizes = 0
sum_from (suc n) i sizes = get_or sizes i 0 + sum_from n (i + 1) sizes

unfoldable pub small_from : ℕ → ℕ → List ℕ → Bool
small_from zero i sizes = true
small_from (suc n) i sizes = leb (get_or sizes i 0) 4096 && small_from n (i + 1) sizes

unfoldable pub array_from : ℕ → ℕ → ℕ → List ℕ → List ℕ → List ℕ
array_from zero i p types sizes = []
array_from (suc n) i p types sizes =
    joined (element_fields (get_or types i 0) p (get_or sizes i 0)) ++ array_from n (i + 1) (p + get_or sizes i 0) types sizes

-- "25 a count or value beyond its limit"; sizes that don't sum to the number of lent octets, too
unfoldable pub elements_fit : Elements → List ℕ → Bool
elements_fit e v = leb e.count 8 && (small_from e.count 0 e.sizes && eqb (sum_from e.count 0 e.sizes) (length v))

unfoldable pub handed_size : Elements → List ℕ → ℕ
handed_size e v = cond (elements_fit e v) (12 * e.count + length v) 0

-- "26 a critical type outside a test call"
unfoldable pub ordinary_from : ℕ → ℕ → List ℕ → Bool
ordinary_from zero i types = true
ordinary_from (suc n) i types = not (negative (signed32 (get_or types i 0))) && ordinary_from n (i + 1) types

abbrev pub types_ordinary : Elements → Bool
types_ordinary e = ordinary_from e.count 0 e.types

abbrev pub no_elements : Elements
no_elements = record { count = 0; types = 0 ∷ 0 ∷ 0 ∷ 0 ∷ 0 ∷ 0 ∷ 0 ∷ 0 ∷ []; sizes = 0 ∷ 0 ∷ 0 ∷ 0 ∷ 0 ∷ 0 ∷ 0 ∷ 0 ∷ [] }

-- "A written pulse alert has type 1 and an eight-octet value: length 8, reason 1."
abbrev pub pulse_value : List ℕ
pulse_value = octets_of 4 8 ++ octets_of 4 1

abbrev pub pulses : List Item
pulses = record { type = 1; value = pulse_value } ∷ []

abbrev pub pulse_elements : Elements
pulse_elements = record { count = 1; types = 1 ∷ 0 ∷ 0 ∷ 0 ∷ 0 ∷ 0 ∷ 0 ∷ 0 ∷ []; sizes = 8 ∷ 0 ∷ 0 ∷ 0 ∷ 0 ∷ 0 ∷ 0 ∷ 0 ∷ [] }

abbrev pub HandedWhole : Type 0
HandedWhole =
    (e : Elements) (v : List ℕ) → elements_fit e v ≡ true
    → (length (items_of e v) ≡ e.count) × ((joined (item_values (items_of e v)) ≡ v) × (items_fit (items_of e v) ≡ true))

abbrev pub TypesAlone : Type 0
TypesAlone = (e : Elements) (v : List ℕ) → types_ordinary e ≡ ordinary (items_of e v)
