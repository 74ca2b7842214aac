-- The field at fault lies in what is left of the token.
-- Assumes nothing.
use Prim.Native.Nat.{ℕ, ◌+◌, ◌*◌, ◌-◌, ◌/◌, ◌<◌, ◌≤◌}
use mathlib.Core.Path.{◌≡◌, refl, sym, ap, subst, ◌∙◌}
use mathlib.Core.Bool.{Bool, true, false, not, ◌&&◌}
use mathlib.Core.Logic.{inl, inr}
use mathlib.Core.List.{List, [], ◌∷◌}
use native.Mathlib.Omega.{arith}
use lib.ListN.{length, drop, length-take, length-drop}
use lib.Seq.{length-take-le, take-take, drop_at}
use lib.Dec.{leb, eqb}
use borrow.Author.Tests.{le-leb, leb-true, eqb-false}
use Rattle.octets.proofs.Bools.{which, no_true}
use Rattle.octets.specs.Octets.{le, signed32, negative}
use Rattle.vector.specs.declared.Vector.{Vector}
use Rattle.vector.specs.Vector.{extent, part}
use Rattle.message.specs.Layout.{Shape, nego, exchange, verify, alert, shape_of, header_of, Head, head_of, Element, elements_of, extension_vector, alert_vector, content_of, vectors_of, size, front}
use Rattle.message.specs.Check.{FirstFails, common_rows, all_pass, all_keep_rule, none_critical, content_rows, body_rows, front_rows}
use Rattle.message.specs.Show.{first_of}
use Rattle.message.proofs.Tables.{giving}
use Rattle.message.proofs.Headers.{common-sized}
use Rattle.message.proofs.Local.{head-front}
use Rattle.parts.proofs.Shows.{length-elements}
use Rattle.token.specs.Token.{order_rows, next_rows}
use Rattle.token.specs.Split.{join}
use Rattle.token.proofs.Splits.{refused-stops}
use Rattle.faults.specs.declared.Spot.{Spot}
use Rattle.faults.specs.Faults.{spot, first_broken, vector_spot, broken_spot, first_critical, critical_spot, spot_of}
use Rattle.faults.specs.Claims.{Within, FaultWithin}
use Rattle.faults.proofs.Spots.{at-number}
use Rattle.faults.proofs.First.{broken-few, broken-is, second-keeps, critical-is, checksum-header-is, checksum-scheme-is}
use Rattle.coverage.proofs.Numbered.{values_length}

-- element j of an array that stands in the message ends in it
element-ends : (m : List ℕ) (v : Vector) (j : ℕ) → j < length (part m v) / 12 → v.offset.0 + 12 * j + 12 ≤ length m
element-ends m v j h = omega (arith, length-take (extent v) (drop v.offset.0 m), length-drop v.offset.0 m)

-- ---- where a vector's offset and size stand
vector-within : (shape : Shape) (m : List ℕ) (k : ℕ) → header_of shape ≤ length m → k < length (vectors_of (content_of shape m))
    → Within (vector_spot shape m k) (length m)
unfolding vectors_of content_of
vector-within nego m k h g = elim (which (eqb k 0)) [
  | inl e ↦ rw e (record { some = omega arith; inside = omega arith })
  | inr e ↦ rw e (elim (which (eqb k 1)) [
    | inl f ↦ rw f (record { some = omega arith; inside = omega arith })
    | inr f ↦ rw f (
        let a : (k ≡ 0) → ⊥ = eqb-false _ _ e in
        let b : (k ≡ 1) → ⊥ = eqb-false _ _ f in
        let few : k - 2 < length (part m (extension_vector m)) / 12 =
        omega (arith, values_length (length (part m (extension_vector m)) / 12) (part m (extension_vector m)) 0) in
        record { some = omega arith; inside = omega (arith, element-ends m (extension_vector m) (k - 2) few) }
        )
  ])
]
vector-within exchange m k h g = record { some = omega arith; inside = omega arith }
vector-within verify m k h g = record { some = omega arith; inside = omega arith }
vector-within alert m k h g = elim (which (eqb k 0)) [
  | inl e ↦ rw e (record { some = omega arith; inside = omega arith })
  | inr e ↦ rw e (
      let a : (k ≡ 0) → ⊥ = eqb-false _ _ e in
      let few : k - 1 < length (part m (alert_vector m)) / 12 =
      omega (arith, values_length (length (part m (alert_vector m)) / 12) (part m (alert_vector m)) 0) in
      record { some = omega arith; inside = omega (arith, element-ends m (alert_vector m) (k - 1) few) }
      )
]

critical-few : (es : List Element) (k : ℕ) → none_critical es ≡ false → first_critical es k < k + length es
unfolding none_critical first_critical
critical-few [] k e = no_true (sym e)
critical-few (x ∷ es) k e = elim (which (not (negative (signed32 x.type)))) [
  | inl t ↦ rw t (let a = critical-few es (k + 1) (sym (ap (λ (b : Bool). b && none_critical es) t) ∙ e) in omega arith)
  | inr t ↦ rw t (omega arith)
]

-- ---- a message whose header has passed
wider : (x y : Spot) (n k : ℕ) → x ≡ y → n ≤ k → Within x n → Within y k
wider x y n k e h w = subst (λ (z : Spot). Within z k) e (record { some = w.some; inside = omega (arith, w.inside) })

-- a field of a header that stands before place 80
before-80 : (m : List ℕ) (n : ℕ) (x : Spot) → x ≡ spot_of n m → 2 ≤ x.size → x.at + x.size ≤ 80 → 80 ≤ length m → Within (spot_of n m) (length m)
before-80 m n x e a b h = wider x (spot_of n m) 80 (length m) e h (record { some = a; inside = b })

broken-within : (m : List ℕ) (shape : Shape) → shape_of (head_of m).kind ≡ shape → header_of shape ≤ length m → (n : ℕ) → 11 ≡ n
    → all_keep_rule (header_of shape) (length m) (vectors_of (content_of shape m)) ≡ false → Within (spot_of n m) (length m)
unfolding spot_of
broken-within m shape is room n e f =
    wider (vector_spot shape m (first_broken (header_of shape) (length m) (vectors_of (content_of shape m)) 0)) (spot_of n m) (length m) (length m)
    (broken-is m shape is room f ∙ at-number n m (broken_spot m) 11 (sym e) refl)
    (omega arith)
    (vector-within shape m (first_broken (header_of shape) (length m) (vectors_of (content_of shape m)) 0) room
    (let a = broken-few (header_of shape) (length m) (vectors_of (content_of shape m)) 0 f in omega arith))

content-within : (m : List ℕ) (shape : Shape) → shape_of (head_of m).kind ≡ shape → header_of shape ≤ length m → (n : ℕ)
    → FirstFails n (content_rows (header_of shape) (length m) (content_of shape m)) → Within (spot_of n m) (length m)
unfolding content_rows content_of spot_of
content-within m nego is room n f = elim f [
  | inl a ↦ before-80 m n (spot 8 0 72 8) (at-number n m (spot 8 0 72 8) 10 (sym a.1) refl) (omega arith) (omega arith) (omega arith)
  | inr a ↦ elim a.1 [
    | inl b ↦ broken-within m nego is room n b.1 b.0
    | inr b ↦ elim b.1 [
      | inl c ↦
          let es = elements_of (part m (extension_vector m)) in
          let few : first_critical es 0 < length (part m (extension_vector m)) / 12 =
          (let z = critical-few es 0 c.0 in
          omega (arith, length-elements (length (part m (extension_vector m)) / 12) (part m (extension_vector m)) 0)) in
          wider (spot 27 (first_critical es 0) ((extension_vector m).offset.0 + 12 * first_critical es 0) 4) (spot_of n m) (length m) (length m)
          (critical-is m room (second-keeps m b.0) ∙ at-number n m (critical_spot m) 12 (sym c.1) refl)
          (omega arith)
          (record { some = omega arith; inside = omega (arith, element-ends m (extension_vector m) (first_critical es 0) few) })
      | inr c ↦ elim c.1 [ inl d ↦ no_true (sym d.0) | inr d ↦ absurd d.1 ]
    ]
  ]
]
content-within m exchange is room n f = elim f [
  | inl a ↦ no_true (sym a.0)
  | inr a ↦ elim a.1 [
    | inl b ↦ broken-within m exchange is room n b.1 b.0
    | inr b ↦ elim b.1 [
      | inl c ↦ no_true (sym c.0)
      | inr c ↦ elim c.1 [ inl d ↦ no_true (sym d.0) | inr d ↦ absurd d.1 ]
    ]
  ]
]
content-within m verify is room n f = elim f [
  | inl a ↦ no_true (sym a.0)
  | inr a ↦ elim a.1 [
    | inl b ↦ broken-within m verify is room n b.1 b.0
    | inr b ↦ elim b.1 [
      | inl c ↦ no_true (sym c.0)
      | inr c ↦ elim c.1 [
        | inl d ↦ elim (which (eqb (le 4 m 56) 20)) [
          | inl t ↦ before-80 m n (spot 14 0 60 4) (at-number n m (spot 14 0 60 4) 13 (sym d.1) (checksum-scheme-is m room t)) (omega arith)
              (omega arith) room
          | inr t ↦ before-80 m n (spot 13 0 56 4) (at-number n m (spot 13 0 56 4) 13 (sym d.1) (checksum-header-is m room t)) (omega arith)
              (omega arith) room
        ]
        | inr d ↦ absurd d.1
      ]
    ]
  ]
]
content-within m alert is room n f = elim f [
  | inl a ↦ no_true (sym a.0)
  | inr a ↦ elim a.1 [
    | inl b ↦ broken-within m alert is room n b.1 b.0
    | inr b ↦ elim b.1 [
      | inl c ↦ no_true (sym c.0)
      | inr c ↦ elim c.1 [ inl d ↦ no_true (sym d.0) | inr d ↦ absurd d.1 ]
    ]
  ]
]

-- ---- the message at the front of s
body-within : (s : List ℕ) (n : ℕ) → all_pass (common_rows (length s) (head_of s)) ≡ true → FirstFails n (front_rows s)
    → Within (spot_of n (first_of s)) (length s)
unfolding front_rows body_rows first_of
body-within s n ok f =
    let z = common-sized (length s) (head_of s) ok in
    let long : length (front s) ≡ size s = length-take-le (size s) s z.within in
    let head : head_of (front s) ≡ head_of s = head-front s (front s) ok (omega arith) (take-take (size s) (size s) s (omega arith)) in
    let is : shape_of (head_of (front s)).kind ≡ shape_of (head_of s).kind = ap (λ (h : Head). shape_of h.kind) head in
    let first : first_of s ≡ front s = simp (le-leb _ _ z.forty, le-leb _ _ z.within) in
    let found : Within (spot_of n (front s)) (length (front s)) =
    content-within (front s) (shape_of (head_of s).kind) is (omega (arith, z.header, z.holds)) n
    (subst (λ (k : ℕ). FirstFails n (content_rows (header_of (shape_of (head_of s).kind)) k (content_of (shape_of (head_of s).kind) (front s))))
    (sym long) f) in
    wider (spot_of n (front s)) (spot_of n (first_of s)) (length (front s)) (length s) (ap (spot_of n) (sym first)) (omega (arith, z.within)) found

-- a field of the common header
early : (s : List ℕ) (n : ℕ) (x : Spot) → leb 40 (length s) ≡ true → x ≡ spot_of n (first_of s) → 2 ≤ x.size → x.at + x.size ≤ 40
    → Within (spot_of n (first_of s)) (length s)
early s n x t e a b = wider x (spot_of n (first_of s)) 40 (length s) e (leb-true _ _ t) (record { some = a; inside = b })

front-within : (s : List ℕ) (q : ℕ) (v : List ℕ) (n : ℕ) → (n ≡ 2 → ⊥) → FirstFails n (next_rows s q v) → Within (spot_of n (first_of s)) (length s)
unfolding next_rows common_rows order_rows spot_of
front-within s q v n other f = elim f [
  | inl a ↦ absurd (other (sym a.1))
  | inr a ↦ elim a.1 [
    | inl b ↦ early s n (spot 1 0 0 8) a.0 (at-number n (first_of s) (spot 1 0 0 8) 3 (sym b.1) refl) (omega arith) (omega arith)
    | inr b ↦ elim b.1 [
      | inl c ↦ early s n (spot 2 0 8 4) a.0 (at-number n (first_of s) (spot 2 0 8 4) 4 (sym c.1) refl) (omega arith) (omega arith)
      | inr c ↦ elim c.1 [
        | inl d ↦ early s n (spot 4 0 16 4) a.0 (at-number n (first_of s) (spot 4 0 16 4) 5 (sym d.1) refl) (omega arith) (omega arith)
        | inr d ↦ elim d.1 [
          | inl e ↦ early s n (spot 5 0 20 4) a.0 (at-number n (first_of s) (spot 5 0 20 4) 6 (sym e.1) refl) (omega arith) (omega arith)
          | inr e ↦ elim e.1 [
            | inl g ↦ early s n (spot 5 0 20 4) a.0 (at-number n (first_of s) (spot 5 0 20 4) 6 (sym g.1) refl) (omega arith) (omega arith)
            | inr g ↦ elim g.1 [
              | inl h ↦ early s n (spot 3 0 12 4) a.0 (at-number n (first_of s) (spot 3 0 12 4) 7 (sym h.1) refl) (omega arith) (omega arith)
              | inr h ↦ elim h.1 [
                | inl i ↦ early s n (spot 6 0 24 16) a.0 (at-number n (first_of s) (spot 6 0 24 16) 8 (sym i.1) refl) (omega arith) (omega arith)
                | inr i ↦ body-within s n (giving (common_rows (length s) (head_of s)) (a.0, (b.0, (c.0, (d.0, (e.0, (g.0, tt))))))) i.1
              ]
            ]
          ]
        ]
      ]
    ]
  ]
]

pub fault-within : FaultWithin
fault-within s n p e some short other = elim (refused-stops s n p e) [
  | inl a ↦ absurd (omega (arith, a))
  | inr a ↦ elim a [
    | inl b ↦ absurd (omega (arith, b))
    | inr b ↦
        let (ms, (rest, stop)) = b in
        let left : rest ≡ drop p s = sym (ap (drop p) (sym stop.joins) ∙ drop_at (join ms) rest p (sym stop.place)) in
        subst (λ (l : List ℕ). Within (spot_of n (first_of l)) (length l)) left
        (front-within rest ((head_of s).sequence + length ms) (head_of s).conversation n other stop.first)
  ]
]
