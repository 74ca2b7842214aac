-- The rule's scheme, in the words of the code.
-- Assumes nothing.
use Prim.Native.Nat.{ℕ, zero, suc, ◌*◌, ◌≤◌, ◌<◌}
use mathlib.Core.Path.{◌≡◌, refl, sym, ap, ◌∙◌}
use mathlib.Core.Bool.{Bool, true, false, cond, not, ◌&&◌}
use mathlib.Core.Logic.{◌⊎◌, inl, inr}
use mathlib.Core.List.{List, [], ◌∷◌}
use native.Mathlib.Omega.{arith}
use lib.ListN.{length, get_or}
use lib.Dec.{eqb, ltb}
use borrow.Author.Tests.{lt-ltb, ltb-true, eqb-true, eqb-false, not-true}
use Rattle.message.proofs.Ids.{length_ids, id-at}
use Rattle.octets.proofs.Bools.{which, no_true, and_l, and_r}
use Rattle.octets.specs.Octets.{octets, same_octets}
use Rattle.octets.proofs.Same.{same-eq, same_refl}
use Rattle.schemes.specs.Lists.{Id, mem, place, distinct}
use Rattle.schemes.specs.Answers.{left_places, left_of}
use Rattle.schemes.specs.declared.Left.{Left}
use Rattle.schemes.proofs.Ids.{mem-place}
use Rattle.conversation.specs.declared.Record.{Record}
use Rattle.conversation.specs.State.{own_of, scheme_at, replied}
use Rattle.conversation.specs.Writing.{some_left, starts_with, first_of_reply}
use Rattle.calls.specs.Calls.{Inside}
use Rattle.conversation.specs.Claims.{Arrays}
use Rattle.calls.proofs.Sizes.{own-sized}
use Rattle.calls.proofs.Lefts.{own-none, own-some, own-place, own-starts}

-- an id of the own list has 16 octets
pub own-id : (r : Record) → Arrays r → r.count ≤ 16 → (k : ℕ) → k < r.count → length (scheme_at r k) ≡ 16
own-id r z few k h = ap length (id-at r.count r.list k h) ∙ own-sized r z k (omega arith)

pub scheme-named : (r : Record) (k : ℕ) → k < r.count → (p : ℕ) → p ≡ k → (id : List ℕ) → id ≡ octets 16 r.list (16 * p) → id ≡ scheme_at r k
scheme-named r k h p p-is id id-is = id-is ∙ rw p-is (sym (id-at r.count r.list k h))

-- ---- a scheme of different ones stands at one place
place_of : (l : List Id) (k : ℕ) → distinct l ≡ true → k < length l → place l (get_or l k []) ≡ k
unfolding place distinct
place_of [] k d h = absurd (omega arith)
place_of (x ∷ l) zero d h = rw (same_refl x)
place_of (x ∷ l) (suc k) d h = go (same_octets (get_or l k []) x) refl (place_of l k (and_r (not (mem x l)) (distinct l) d) (omega arith)) where
  there : place l (get_or l k []) ≡ k → mem (get_or l k []) l ≡ true
  there i = mem-place (get_or l k []) l ∙ rw i (lt-ltb k (length l) (omega arith))

  go : (b : Bool) → same_octets (get_or l k []) x ≡ b → place l (get_or l k []) ≡ k → cond b 0 (suc (place l (get_or l k []))) ≡ suc k
  go true e i =
      no_true (sym (not-true (mem x l) (and_l (not (mem x l)) (distinct l) d)) ∙ ap (λ (y : Id). mem y l) (sym (same-eq (get_or l k []) x e)) ∙ there i)
  go false e i = ap suc i

-- ---- the AP_REQUEST's scheme and the reply's first
starts_none : (l : List Id) (id : Id) → false ≡ some_left l → starts_with l id ≡ false
starts_none [] id e = refl
starts_none (x ∷ l) id e = no_true e

module _ (r : Record) (b : Inside r) (z : Left) (z-is : z ≡ left_of (left_places 16 r.common r.marks)) where
  pub first-empty : z.left ≡ 0 → false ≡ first_of_reply r
  first-empty e = go (ltb r.requested r.count) where
    go : (b : Bool) → false ≡ (b && starts_with (replied r) (scheme_at r r.requested))
    go true =
        sym (starts_none (replied r) (scheme_at r r.requested) (own-none r.list r.count z b.few r.common r.marks b.bound z-is e))
    go false = refl

  module _ (some : z.left ≡ 0 → ⊥) where
    left-some : some_left (replied r) ≡ true
    left-some = sym (own-some r.list r.count z b.few r.common r.marks b.bound z-is some)

    inside : z.place < r.count
    inside = own-place r.list r.count z b.few r.common r.marks b.bound z-is left-some

    starts : starts_with (replied r) (scheme_at r r.requested) ≡ same_octets (scheme_at r r.requested) (scheme_at r z.place)
    starts =
        own-starts r.list r.count z b.few r.common r.marks b.bound z-is left-some (scheme_at r r.requested)
        ∙ ap (same_octets (scheme_at r r.requested)) (sym (id-at r.count r.list z.place inside))

    place_at : (k : ℕ) → k < r.count → place (own_of r) (scheme_at r k) ≡ k
    place_at k h = place_of (own_of r) k b.different (rw length_ids h)

    pub first-same : eqb z.place r.requested ≡ first_of_reply r
    first-same =
        rw starts
        (go (which (eqb z.place r.requested)) (which (ltb r.requested r.count))
        (which (same_octets (scheme_at r r.requested) (scheme_at r z.place)))) where
          go : (eqb z.place r.requested ≡ true) ⊎ (eqb z.place r.requested ≡ false)
              → (ltb r.requested r.count ≡ true) ⊎ (ltb r.requested r.count ≡ false)
              → (same_octets (scheme_at r r.requested) (scheme_at r z.place) ≡ true)
              ⊎ (same_octets (scheme_at r r.requested) (scheme_at r z.place) ≡ false)
              → eqb z.place r.requested ≡ (ltb r.requested r.count && same_octets (scheme_at r r.requested) (scheme_at r z.place))
          go (inl e) l s =
              let p : z.place ≡ r.requested = eqb-true _ _ e in
              e ∙ sym (rw (← p, lt-ltb _ _ inside) (same_refl (scheme_at r z.place)))
          go (inr e) (inr l) s = rw (e, l)
          go (inr e) (inl l) (inr s) = rw (e, l, s)
          go (inr e) (inl l) (inl s) =
              absurd (eqb-false _ _ e
              (sym (place_at z.place inside) ∙ ap (place (own_of r)) (sym (same-eq _ _ s)) ∙ place_at r.requested (ltb-true _ _ l)))
