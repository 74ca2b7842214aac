-- Identifiers put one behind the other, in the words of the code.
-- Assumes nothing.
use Prim.Native.Nat.{ℕ, suc, ◌+◌, ◌-◌, ◌<◌, ◌≤◌}
use mathlib.Core.Path.{◌≡◌, refl, ap, ◌∙◌}
use mathlib.Core.List.{List, [], ◌∷◌}
use native.Mathlib.Omega.{arith}
use lib.ListN.{length, take, drop, get_or, length-drop}
use lib.Seq.{take_all, length-take-le}
use Rattle.put.specs.Put.{Written}
use Rattle.put.proofs.Laws.{length-put}
use Rattle.der.specs.Element.{element}
use Rattle.der_put.specs.Size.{element_size}
use Rattle.der_put.proofs.Heads.{both, nothing}
use Rattle.envelope.specs.Envelope.{identifiers}
use Rattle.envelope_write.specs.Given.{sum_of, split_by, identifiers_size, IdentifiersRoom}

pub ids-none : (ns s d : List ℕ) (at : ℕ) → length ns ≡ 0 → Written d at (identifiers_size ns) (identifiers (split_by ns s)) d at
unfolding identifiers_size identifiers split_by
ids-none [] s d at h = nothing d at
ids-none (n ∷ ns) s d at h = absurd (omega arith)

abbrev Tail : List ℕ → List ℕ
Tail ns = take (length ns - 1) (drop 1 ns)

abbrev Rest : List ℕ → List ℕ → List ℕ
Rest ns s = take (length s - get_or ns 0 0) (drop (get_or ns 0 0) s)

tail-is : (n : ℕ) (ns : List ℕ) → Tail (n ∷ ns) ≡ ns
tail-is n ns = take_all (suc (length ns) - 1) ns (omega arith)

rest-is : (n : ℕ) (ns s : List ℕ) → Rest (n ∷ ns) s ≡ drop n s
rest-is n ns s = take_all (length s - n) (drop n s) (omega (arith, length-drop n s))

pub ids-fit : (ns s : List ℕ) → (length ns ≡ 0 → ⊥) → length s ≡ sum_of ns → get_or ns 0 0 ≤ length s
unfolding sum_of
ids-fit [] s h e = absurd (h refl)
ids-fit (n ∷ ns) s h e = omega arith

pub record First (ns s d : List ℕ) (at : ℕ) : Type 0 where
  pub room : at + element_size (length (take (get_or ns 0 0) s)) ≤ length d
  pub small : length (take (get_or ns 0 0) s) ≤ 65535

pub ids-first : (ns s d : List ℕ) (at : ℕ) → (length ns ≡ 0 → ⊥) → IdentifiersRoom ns s d at → First ns s d at
unfolding sum_of identifiers_size
ids-first [] s d at h r = absurd (h refl)
ids-first (n ∷ ns) s d at h r =
    let f : n ≤ length s = ids-fit (n ∷ ns) s h r.sum in
    let e : length (take n s) ≡ n = length-take-le n s f in
    let o = r.room in let m = r.small in
    record { room = rw e (omega arith); small = omega arith }

pub ids-rest : (ns s d : List ℕ) (at : ℕ) (d1 : List ℕ) (a1 : ℕ) → (length ns ≡ 0 → ⊥) → IdentifiersRoom ns s d at
    → Written d at (element_size (length (take (get_or ns 0 0) s))) (element 0x06 (take (get_or ns 0 0) s)) d1 a1
    → IdentifiersRoom (Tail ns) (Rest ns s) d1 a1
unfolding sum_of identifiers_size
ids-rest [] s d at d1 a1 h r w = absurd (h refl)
ids-rest (n ∷ ns) s d at d1 a1 h r w =
    let f : n ≤ length s = ids-fit (n ∷ ns) s h r.sum in
    let e : length (take n s) ≡ n = length-take-le n s f in
    let o : at + (element_size n + identifiers_size ns) ≤ length d = r.room in
    let z : length (element 0x06 (take n s)) ≡ element_size n = w.size ∙ rw e in
    let l : length d1 ≡ length d = ap length w.holds ∙ length-put d at (element 0x06 (take n s)) (omega arith) in
    let a : a1 ≡ at + element_size n = w.after ∙ rw e in
    let u : length s ≡ n + sum_of ns = r.sum in
    let q = r.small in
    rw (tail-is n ns, rest-is n ns s)
    (record { sum = rw (length-drop n s) (omega arith); small = rw (length-drop n s) (omega arith); room = omega arith })

pub ids-put : (ns s d : List ℕ) (at : ℕ) (d1 : List ℕ) (a1 : ℕ) (d2 : List ℕ) (a2 : ℕ) → (length ns ≡ 0 → ⊥) → IdentifiersRoom ns s d at
    → Written d at (element_size (length (take (get_or ns 0 0) s))) (element 0x06 (take (get_or ns 0 0) s)) d1 a1
    → Written d1 a1 (identifiers_size (Tail ns)) (identifiers (split_by (Tail ns) (Rest ns s))) d2 a2
    → Written d at (identifiers_size ns) (identifiers (split_by ns s)) d2 a2
unfolding identifiers_size identifiers split_by
ids-put [] s d at d1 a1 d2 a2 h r w v = absurd (h refl)
ids-put (n ∷ ns) s d at d1 a1 d2 a2 h r w v =
    let f : n ≤ length s = ids-fit (n ∷ ns) s h r.sum in
    let e : length (take n s) ≡ n = length-take-le n s f in
    both (rw e at w) (rw (tail-is n ns, rest-is n ns s) at v) r.room

pub ids-less : (ns : List ℕ) (t : ℕ) → (length ns ≡ 0 → ⊥) → length ns ≡ t → length (Tail ns) < t
ids-less [] t h e = absurd (h refl)
ids-less (n ∷ ns) t h e = rw (tail-is n ns) (omega arith)
