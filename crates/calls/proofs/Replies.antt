-- Whether the reply lists a scheme, in the words of the code.
-- Assumes nothing.
use Prim.Native.Nat.compare
use Prim.Native.Nat.{ℕ, suc, ◌/◌}
use mathlib.Core.Path.{◌≡◌, refl, sym, ap, ◌∙◌}
use mathlib.Core.Bool.{Bool, true, false, cond, not, ◌&&◌}
use mathlib.Core.List.{List, [], ◌∷◌}
use native.Mathlib.Omega.{arith}
use lib.ListN.{length}
use lib.Dec.{ltb}
use borrow.Author.Tests.{lt-ltb, not-true}
use Rattle.octets.proofs.Bools.{both}
use Rattle.octets.specs.Octets.{same_octets}
use Rattle.octets.proofs.Same.{same-eq}
use Rattle.message.proofs.Ids.{length_ids}
use Rattle.schemes.specs.Lists.{Id, mem, place, distinct, bit}
use Rattle.schemes.specs.Sets.{left}
use Rattle.schemes.proofs.Ids.{mem-place}
use Rattle.conversation.specs.declared.Record.{Record}
use Rattle.conversation.specs.State.{own_of, replied}
use Rattle.calls.specs.Calls.{Inside}

-- of different schemes, one stands among those left where the bits of its place say so
mem-left : (l : List Id) (c m : ℕ) (s : Id) → distinct l ≡ true
    → mem s (left l c m) ≡ (ltb (place l s) (length l) && (bit c (place l s) && not (bit m (place l s))))
unfolding mem left place distinct
mem-left [] c m s d = refl
mem-left (x ∷ l) c m s d = go (same_octets s x) (bit c 0 && not (bit m 0)) refl refl (mem-left l (c / 2) (m / 2) s parts.1) where
  parts : (not (mem x l) ≡ true) × (distinct l ≡ true)
  parts = both (not (mem x l)) (distinct l) d

  absent : same_octets s x ≡ true → ltb (place l s) (length l) ≡ false
  absent e = sym (mem-place s l) ∙ ap (λ (y : Id). mem y l) (same-eq s x e) ∙ not-true (mem x l) parts.0

  go : (same : Bool) (kept : Bool) → same_octets s x ≡ same → (bit c 0 && not (bit m 0)) ≡ kept
      → mem s (left l (c / 2) (m / 2)) ≡ (ltb (place l s) (length l) && (bit (c / 2) (place l s) && not (bit (m / 2) (place l s))))
      → mem s (cond (bit c 0 && not (bit m 0)) (x ∷ left l (c / 2) (m / 2)) (left l (c / 2) (m / 2)))
      ≡ (ltb (cond (same_octets s x) 0 (suc (place l s))) (suc (length l))
      && (bit c (cond (same_octets s x) 0 (suc (place l s))) && not (bit m (cond (same_octets s x) 0 (suc (place l s))))))
  go true true e f ih = rw (f, e) (rw (f, lt-ltb 0 (suc (length l)) (omega arith)))
  go true false e f ih = rw (f, e) (rw f (ih ∙ rw (absent e, lt-ltb 0 (suc (length l)) (omega arith))))
  go false true e f ih = rw (f, e) (rw compare.suc-suc ih)
  go false false e f ih = rw (f, e) (rw compare.suc-suc ih)

pub reply_is : (r : Record) (id : List ℕ) (i : Inside r) (k : ℕ) → k ≡ place (own_of r) id
    → mem id (replied r) ≡ (ltb k r.count && (bit r.common k && not (bit r.marks k)))
reply_is r id i k k-is = mem-left (own_of r) r.common r.marks id i.different ∙ rw (← k-is, length_ids r.count r.list)
