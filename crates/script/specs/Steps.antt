-- What the private functions promise. No contract of a public function speaks of these.
--
-- Glossary
--   end_of s from   where the field ends that starts at `from`: before the next space, or at the line's end
--   FieldEnd        what is said of a field's end
--   item_as r d     what the answer r says, where the value stands at the front of the slice d
--   within room x   the item x, where its value has room in so many octets
--   ItemRead        what is said of the item of a field
--   one_more e t n  the elements e and one behind them, of type t, whose value has n octets
use Rattle.std.specs.Prelude.{ℕ, ◌+◌, ◌≤◌, ◌≡◌, cond, List, [], ◌∷◌, length, take, set, leb, ltb, Option, Some, None}
use Rattle.std.specs.Option.{IfSome}
use Rattle.scan.specs.Scan.{index_of, slice}
use Rattle.put.specs.Put.{joined}
use Rattle.elements.specs.declared.Elements.{Elements}
use Rattle.elements.specs.Elements.{item_values}
use Rattle.script.specs.declared.item.ItemText.{ItemText}
use Rattle.script.specs.Grammar.{Items, these, no_items, item_of, size_of}

unfoldable pub end_of : List ℕ → ℕ → ℕ
end_of s from = cond (ltb (length s) from) (length s) (from + index_of 32 (slice from (length s) s))

pub record FieldEnd (s : List ℕ) (from r : ℕ) : Type 0 where
  pub place : r ≡ end_of s from
  pub inside : r ≤ length s
  pub onward : from ≤ length s → from ≤ r

abbrev pub item_as : Option ItemText → List ℕ → Items
item_as (Some x) d = these (record { type = x.kind; value = take x.size d } ∷ [])
item_as None d = no_items

abbrev pub within : ℕ → Items → Items
within room (these xs) = cond (leb (length (joined (item_values xs))) room) (these xs) no_items
within room no_items = no_items

pub record ItemRead (s d : List ℕ) (r : Option ItemText) (d' : List ℕ) : Type 0 where
  pub says : item_as r d' ≡ within (length d) (item_of s)
  pub inside : IfSome r (λ x. x.size ≤ length d)

abbrev pub one_more : Elements → ℕ → ℕ → Elements
one_more e t n = record { count = e.count + 1; types = set e.types e.count t; sizes = set e.sizes e.count (size_of n) }
