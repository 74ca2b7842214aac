-- What the writer leaves: one law for each answer, in the words of the code.
-- Assumes nothing.
use mathlib.Core.Path.{◌≡◌, sym, ap, ◌∙◌}
use mathlib.Core.Bool.{Bool, true, false}
use mathlib.Core.List.{List, [], ◌∷◌, ◌++◌}
use Prim.Native.Nat.{ℕ, ◌+◌, ◌*◌, ◌≤◌}
use lib.ListN.{length}
use lib.Dec.{leb}
use lib.IntN.{ℤ}
use borrow.Author.Tests.{eq-eqb, ne_eqb}
use Rattle.put.specs.Put.{Written, joined}
use Rattle.put.proofs.Laws.{wrote, step, group, done}
use Rattle.elements.specs.declared.Elements.{Elements}
use Rattle.elements.specs.Elements.{offset_of, item_octets, items_of, elements_fit}
use Rattle.elements.proofs.Views.{handed, size-given}
use Rattle.encode.specs.declared.Heading.{Heading}
use Rattle.encode.specs.Encode.{alert_of, size_of, head_fields, alert_fields, encoded, encodable, written, unwritten, storing_handed}
use Rattle.encode.proofs.Sizes.{length-encoded}
use Rattle.encode.proofs.Storing.{unhanded, handed-on, crowded, roomy, room-given}

-- the fields as the code puts them: count and sizes of what is handed over are those of the list
alert-octets : (h : Heading) (scheme : List ℕ) (code : ℤ) (e : Elements) (v : List ℕ) → elements_fit e v ≡ true
    → joined
    ((head_fields h (72 + (12 * e.count + length v)) ++ alert_fields scheme code (offset_of e.count 72) e.count)
    ++ (item_octets 72 (items_of e v) ∷ []))
    ≡ encoded h (alert_of scheme code (items_of e v))
unfolding encoded
alert-octets h scheme code e v t = let k = handed e v t in rw (k.count, k.values)

-- the header and the alerts, put one behind the other; z: the code as the header's writer got it
pub alert-written : (h : Heading) (scheme : List ℕ) (code : ℤ) (e : Elements) (v : List ℕ) → elements_fit e v ≡ true → length h.conversation ≡ 16
    → length scheme ≡ 16
    → (d : List ℕ) (at : ℕ) → at + (72 + (12 * e.count + length v)) ≤ length d
    → (o : ℕ) → o ≡ offset_of e.count 72 → (z : ℤ) → z ≡ code
    → (d1 : List ℕ) (a1 : ℕ) → Written d at 72 (joined (head_fields h (72 + (12 * e.count + length v)) ++ alert_fields scheme z o e.count)) d1 a1
    → (d2 : List ℕ) (a2 : ℕ) → Written d1 a1 (12 * e.count + length v) (item_octets 72 (items_of e v)) d2 a2
    → Written d at (72 + (12 * e.count + length v)) (encoded h (alert_of scheme code (items_of e v))) d2 a2
alert-written h scheme code e v t id whole d at room o o_is z z-is d1 a1 w1 d2 a2 w2 =
    let s = alert-octets h scheme code e v t in
    let f = head_fields h (72 + (12 * e.count + length v)) ++ alert_fields scheme code (offset_of e.count 72) e.count in
    let n : length (encoded h (alert_of scheme code (items_of e v))) ≡ 72 + (12 * e.count + length v) =
    length-encoded h id (alert_of scheme code (items_of e v)) whole ∙ rw (size-given e v t) in
    rw (← s) (wrote _ (group f (rw (o_is, z-is) at w1) (step w2 done)) (ap length s ∙ n) room)

module _ (d : List ℕ) (at : ℕ) (h : Heading) (scheme : List ℕ) (code : ℤ) (e : Elements) (v : List ℕ) where
  abbrev Left : Type 0
  Left = unwritten d ≡ storing_handed (elements_fit e v) d at h (alert_of scheme code (items_of e v))

  pub alert-kind : (h.kind.0 ≡ 7 → ⊥) → Left
  unfolding encodable
  alert-kind k = unhanded d at h _ _ (simp (ne_eqb _ _ k))

  module _ (kind : h.kind.0 ≡ 7) (f : Bool) (f-is : f ≡ elements_fit e v) where
    pub alert-unfit : f ≡ false → Left
    unfolding storing_handed
    alert-unfit k = rw (sym f-is ∙ k)

    module _ (fit : f ≡ true) (id : length h.conversation ≡ 16) (whole : length scheme ≡ 16) (r : Bool)
        (r-is : r ≡ leb (at + (72 + (12 * e.count + length v))) (length d)) where
      can-alert : encodable h (alert_of scheme code (items_of e v)) ≡ true
      unfolding encodable
      can-alert = simp (eq-eqb _ _ kind, (handed e v (sym f-is ∙ fit)).fit)

      sized : size_of (alert_of scheme code (items_of e v)) ≡ 72 + (12 * e.count + length v)
      sized = rw (size-given e v (sym f-is ∙ fit))

      pub alert-crowded : r ≡ false → Left
      alert-crowded k = handed-on d at h _ _ _ (sym f-is ∙ fit) (crowded d at h _ can-alert id whole r (rw sized r-is) k)

      pub alert-roomy : r ≡ true → (d' : List ℕ) (next : ℕ) (z : ℤ) → z ≡ code
          → Written d at (72 + (12 * e.count + length v)) (encoded h (alert_of scheme z (items_of e v))) d' next
          → written next d' ≡ storing_handed (elements_fit e v) d at h (alert_of scheme code (items_of e v))
      alert-roomy k d' next z z-is w =
          handed-on d at h _ _ _ (sym f-is ∙ fit) (roomy d at h _ can-alert id whole r (rw sized r-is) k d' next (rw sized (rw z-is at w)))

pub ruleset storings = (alert-kind, alert-unfit, alert-crowded, alert-roomy, room-given)
