-- What the writer leaves: one law for each answer, in the words of the code.
-- Assumes nothing.
use mathlib.Core.Path.{◌≡◌, sym, ap, ◌∙◌}
use mathlib.Core.Bool.{Bool, true, false}
use mathlib.Core.Logic.{◌⊎◌, inl, inr}
use mathlib.Core.List.{List, [], ◌∷◌, ◌++◌}
use Prim.Native.Nat.{ℕ, ◌+◌, ◌*◌, ◌/◌, ◌%◌, ◌≤◌, ◌<◌}
use lib.ListN.{length}
use lib.Dec.{leb}
use borrow.Author.Tests.{le-leb, lt-leb, eq-eqb, ne_eqb}
use Rattle.put.specs.Put.{Written, joined}
use Rattle.elements.specs.declared.Elements.{Elements}
use Rattle.elements.specs.Elements.{offset_of, item_octets, items_of, elements_fit}
use Rattle.elements.proofs.Views.{handed, few-given, short-given, fit-given, size-given}
use Rattle.encode.specs.declared.Heading.{Heading}
use Rattle.encode.specs.Encode.{nego_of, size_of, head_fields, nego_fields, encoded, encodable, written, unwritten, storing_handed}
use Rattle.put.proofs.Laws.{wrote, step, group, done}
use Rattle.encode.proofs.Sizes.{length-encoded}
use Rattle.encode.proofs.Storing.{crowded, roomy, room-given, unhanded, handed-on}

-- the fields as the code puts them: count and sizes of what is handed over are those of the list
pub nego-octets : (h : Heading) (random schemes : List ℕ) (e : Elements) (v : List ℕ) → elements_fit e v ≡ true
    → joined
    ((head_fields h (96 + length schemes + (12 * e.count + length v))
    ++ nego_fields random (length schemes / 16) (offset_of e.count (96 + length schemes)) e.count)
    ++ (schemes ∷ item_octets (96 + length schemes) (items_of e v) ∷ []))
    ≡ encoded h (nego_of random schemes (items_of e v))
unfolding encoded
nego-octets h random schemes e v t = let k = handed e v t in rw (k.count, k.values)

-- the header, the schemes and the extensions, put one behind the other
pub nego-written : (h : Heading) (random schemes : List ℕ) (e : Elements) (v : List ℕ) → elements_fit e v ≡ true → length h.conversation ≡ 16
    → length random ≡ 32
    → (d : List ℕ) (at : ℕ) → at + (96 + length schemes + (12 * e.count + length v)) ≤ length d
    → (o : ℕ) → o ≡ offset_of e.count (96 + length schemes)
    → (d1 : List ℕ) (a1 : ℕ) → Written d at 96
    (joined (head_fields h (96 + length schemes + (12 * e.count + length v)) ++ nego_fields random (length schemes / 16) o e.count)) d1 a1
    → (d2 : List ℕ) (a2 : ℕ) → Written d1 a1 (length schemes) schemes d2 a2
    → (d3 : List ℕ) (a3 : ℕ) → Written d2 a2 (12 * e.count + length v) (item_octets (96 + length schemes) (items_of e v)) d3 a3
    → Written d at (96 + length schemes + (12 * e.count + length v)) (encoded h (nego_of random schemes (items_of e v))) d3 a3
nego-written h random schemes e v t id whole d at room o o_is d1 a1 w1 d2 a2 w2 d3 a3 w3 =
    let s = nego-octets h random schemes e v t in
    let f =
    head_fields h (96 + length schemes + (12 * e.count + length v))
    ++ nego_fields random (length schemes / 16) (offset_of e.count (96 + length schemes)) e.count in
    let n : length (encoded h (nego_of random schemes (items_of e v))) ≡ 96 + length schemes + (12 * e.count + length v) =
    length-encoded h id (nego_of random schemes (items_of e v)) whole ∙ rw (size-given e v t) in
    rw (← s) (wrote _ (group f (rw o_is at w1) (step w2 (step w3 done))) (ap length s ∙ n) room)

module _ (d : List ℕ) (at : ℕ) (h : Heading) (random schemes : List ℕ) (e : Elements) (v : List ℕ) where
  abbrev Left : Type 0
  Left = unwritten d ≡ storing_handed (elements_fit e v) d at h (nego_of random schemes (items_of e v))

  pub nego-kind : 1 < h.kind.0 → Left
  unfolding encodable
  nego-kind k = unhanded d at h _ _ (simp (lt-leb _ _ k))

  pub nego-list : h.kind.0 ≤ 1 → (length schemes % 16 ≡ 0 → ⊥) ⊎ ((length schemes % 16 ≡ 0) × (1048560 < length schemes)) → Left
  unfolding encodable
  nego-list kind (inl k) = unhanded d at h _ _ (simp (le-leb _ _ kind, ne_eqb _ _ k))
  nego-list kind (inr (ids, k)) = unhanded d at h _ _ (simp (le-leb _ _ kind, eq-eqb _ _ ids, lt-leb _ _ k))

  module _ (f : Bool) (f-is : f ≡ elements_fit e v) where
    pub nego-unfit : f ≡ false → Left
    unfolding storing_handed
    nego-unfit k = rw (sym f-is ∙ k)

    module _ (kind : h.kind.0 ≤ 1) (ids : length schemes % 16 ≡ 0) (count : length schemes ≤ 1048560) (fit : f ≡ true)
        (id : length h.conversation ≡ 16) (whole : length random ≡ 32) (r : Bool)
        (r-is : r ≡ leb (at + (96 + length schemes + (12 * e.count + length v))) (length d)) where
      can-nego : encodable h (nego_of random schemes (items_of e v)) ≡ true
      unfolding encodable
      can-nego = simp (le-leb _ _ kind, eq-eqb _ _ ids, le-leb _ _ count, (handed e v (sym f-is ∙ fit)).fit)

      sized : size_of (nego_of random schemes (items_of e v)) ≡ 96 + length schemes + (12 * e.count + length v)
      sized = rw (size-given e v (sym f-is ∙ fit))

      pub nego-crowded : r ≡ false → Left
      nego-crowded k = handed-on d at h _ _ _ (sym f-is ∙ fit) (crowded d at h _ can-nego id whole r (rw sized r-is) k)

      pub nego-roomy : r ≡ true → (d' : List ℕ) (next : ℕ)
          → Written d at (96 + length schemes + (12 * e.count + length v)) (encoded h (nego_of random schemes (items_of e v))) d' next
          → written next d' ≡ storing_handed (elements_fit e v) d at h (nego_of random schemes (items_of e v))
      nego-roomy k d' next w = handed-on d at h _ _ _ (sym f-is ∙ fit) (roomy d at h _ can-nego id whole r (rw sized r-is) k d' next (rw sized w))

pub ruleset storings = (nego-kind, nego-unfit, nego-crowded, nego-roomy, room-given, few-given, short-given, fit-given)
