-- Worked examples: an array with its values, the limits at the octet, and critical types.
-- Assumes nothing.
use Prim.Native.Nat.{ℕ}
use mathlib.Core.Path.{◌≡◌, refl}
use mathlib.Core.Bool.{true, false}
use mathlib.Core.List.{List, [], ◌∷◌}
use lib.ListN.{length}
use Rattle.octets.specs.Octets.{signed32}
use Rattle.put.specs.Put.{octets_of, joined}
use Rattle.elements.specs.declared.Elements.{Elements}
use Rattle.elements.specs.Elements.{offset_of, item_octets, items_of, sum_from, small_from, elements_fit, ordinary_from, types_ordinary, no_elements, pulse_value, pulses, pulse_elements}

-- at 112, behind one scheme: three extensions, the second one empty
pub three-extensions : item_octets 112
    (record { type = 1; value = 7 ∷ 8 ∷ [] } ∷ record { type = 4294967294; value = [] } ∷ record { type = 3; value = 9 ∷ [] } ∷ [])
    ≡ joined
    (octets_of 4 1 ∷ octets_of 4 148 ∷ octets_of 4 2 ∷ octets_of 4 4294967294 ∷ octets_of 4 0 ∷ octets_of 4 0 ∷ octets_of 4 3 ∷ octets_of 4 150
    ∷ octets_of 4 1 ∷ (7 ∷ 8 ∷ 9 ∷ []) ∷ [])
unfolding item_octets offset_of
three-extensions = refl

-- a pulse at 72: type 1, its value at 84, length 8, reason 1
pub pulse-at-72 : item_octets 72 pulses ≡ joined (octets_of 4 1 ∷ octets_of 4 84 ∷ octets_of 4 8 ∷ octets_of 4 8 ∷ octets_of 4 1 ∷ [])
unfolding item_octets offset_of
pulse-at-72 = refl

-- what the two constructors hand over
pub pulse-items : items_of pulse_elements pulse_value ≡ pulses
unfolding items_of
pulse-items = refl

pub pulse-fits : elements_fit pulse_elements pulse_value ≡ true
unfolding elements_fit small_from sum_from
pulse-fits = refl

pub none-items : (v : List ℕ) → items_of no_elements v ≡ []
unfolding items_of
none-items v = refl

pub none-fit : elements_fit no_elements [] ≡ true
unfolding elements_fit small_from sum_from
none-fit = refl

-- so many empty ones; one of a type; one of a size
abbrev empties : ℕ → Elements
empties n = record { count = n; types = no_elements.types; sizes = no_elements.sizes }

abbrev typed : ℕ → Elements
typed t = record { count = 1; types = t ∷ 0 ∷ 0 ∷ 0 ∷ 0 ∷ 0 ∷ 0 ∷ 0 ∷ []; sizes = no_elements.sizes }

abbrev sized : ℕ → Elements
sized n = record { count = 1; types = no_elements.types; sizes = n ∷ 0 ∷ 0 ∷ 0 ∷ 0 ∷ 0 ∷ 0 ∷ 0 ∷ [] }

-- 8 and 9
pub eight-kept : elements_fit (empties 8) [] ≡ true
unfolding elements_fit small_from sum_from
eight-kept = refl

pub nine-refused : elements_fit (empties 9) [] ≡ false
unfolding elements_fit
nine-refused = refl

-- 4,096 and 4,097
pub longest-kept : (v : List ℕ) → length v ≡ 4096 → elements_fit (sized 4096) v ≡ true
unfolding elements_fit small_from sum_from
longest-kept v e = rw e

pub too_long : (v : List ℕ) → elements_fit (sized 4097) v ≡ false
unfolding elements_fit small_from
too_long v = refl

-- one octet more, or less, than the sizes say
pub left_over_lem : elements_fit (sized 1) (7 ∷ 8 ∷ []) ≡ false
unfolding elements_fit small_from sum_from
left_over_lem = refl

pub one-missing : elements_fit (sized 1) [] ≡ false
unfolding elements_fit small_from sum_from
one-missing = refl

-- 0, 2,147,483,647, and minus 2,147,483,648
pub type-0 : types_ordinary (typed 0) ≡ true
unfolding ordinary_from signed32
type-0 = refl

pub type-largest : types_ordinary (typed 2147483647) ≡ true
unfolding ordinary_from signed32
type-largest = refl

pub type-least : types_ordinary (typed 2147483648) ≡ false
unfolding ordinary_from signed32
type-least = refl
