-- Where the elements of a message's lists lie. In the words of the code.
-- Assumes nothing.
use Prim.Native.Nat.{ℕ, ◌+◌, ◌*◌, ◌<◌, ◌≤◌, ◌^◌}
use mathlib.Core.Path.{◌≡◌, refl, sym, ap, subst, ◌∙◌}
use mathlib.Core.List.{List, Memᴰ}
use native.Mathlib.Omega.{arith}
use lib.ListN.{length}
use Rattle.vector.specs.declared.Vector.{Vector}
use Rattle.message.specs.Layout.{Shape, nego, exchange, verify, alert, head_of, shape_of, header_of, scheme_vector, extension_vector, alert_vector, content_of, vectors_of}
use Rattle.coverage.specs.Coverage.{vectors_in}
use Rattle.table.specs.Table.{Held}
use Rattle.table.proofs.Entries.{all-vectors, entry-within, held-long}
use Rattle.entries.specs.Entries.{ids_vector, array_vector}
use Rattle.entries.specs.Lookup.{Holds}

module _ (p : ℕ) (m : List ℕ) (held : Held p m) where
  pub held-room : p + length m < 2 ^ 32
  held-room = omega (arith, held.ends)

  pub held-zero : Held 0 m
  held-zero = record { ends = omega (arith, held.ends); header = held.header; lies = held.lies }

  pub held-type : 8 + 4 ≤ length m
  held-type = omega (arith, held-long p m held)

  pub few-vectors : length (vectors_in m) < 2 ^ 32
  few-vectors = omega (arith, entry-within p m held, held.ends)

  pub ids-inside : (shape : Shape) → shape_of (head_of m).kind ≡ shape → (k : ℕ) → k < (ids_vector shape m).count
      → (ids_vector shape m).offset.0 + 16 * (ids_vector shape m).count ≤ length m
  unfolding vectors_of content_of
  ids-inside nego e k h =
      let member : Memᴰ (scheme_vector m) (vectors_in m) =
      subst (λ (l : List Vector). Memᴰ (scheme_vector m) l)
      (sym (all-vectors m held.header ∙ ap (λ (x : Shape). vectors_of (content_of x m)) e)) (mathlib.Core.List.Memᴰ.head refl) in
      let lies = held.lies (scheme_vector m) member (λ z. omega arith) in
      omega (arith, lies.before)
  ids-inside exchange e k h = absurd (omega arith)
  ids-inside verify e k h = absurd (omega arith)
  ids-inside alert e k h = absurd (omega arith)

  pub array-inside : (shape : Shape) → shape_of (head_of m).kind ≡ shape → (k : ℕ) → k < (array_vector shape m).count
      → (array_vector shape m).offset.0 + 12 * (array_vector shape m).count ≤ length m
  unfolding vectors_of content_of
  array-inside nego e k h =
      let member : Memᴰ (extension_vector m) (vectors_in m) =
      subst (λ (l : List Vector). Memᴰ (extension_vector m) l)
      (sym (all-vectors m held.header ∙ ap (λ (x : Shape). vectors_of (content_of x m)) e)) (mathlib.Core.List.Memᴰ.tail (mathlib.Core.List.Memᴰ.head refl)) in
      let lies = held.lies (extension_vector m) member (λ z. omega arith) in
      omega (arith, lies.before)
  array-inside exchange e k h = absurd (omega arith)
  array-inside verify e k h = absurd (omega arith)
  array-inside alert e k h =
      let member : Memᴰ (alert_vector m) (vectors_in m) =
      subst (λ (l : List Vector). Memᴰ (alert_vector m) l)
      (sym (all-vectors m held.header ∙ ap (λ (x : Shape). vectors_of (content_of x m)) e)) (mathlib.Core.List.Memᴰ.head refl) in
      let lies = held.lies (alert_vector m) member (λ z. omega arith) in
      omega (arith, lies.before)

module _ (p : ℕ) (m : List ℕ) (kind : ℕ) (on : Holds p m kind) where
  pub holds-header : header_of (shape_of kind) ≤ length m
  holds-header = subst (λ (x : ℕ). header_of (shape_of x) ≤ length m) (sym on.is) on.held.header

  pub holds-room : p + length m < 2 ^ 32
  holds-room = held-room p m on.held

  -- ---- the words of `list_entry`
  module _ (v : Vector) (v-is : v ≡ ids_vector (shape_of kind) m) (k : ℕ) (h : k < v.count) where
    id-last : v.offset.0 + 16 * v.count ≤ length m
    id-last = subst (λ (x : Vector). x.offset.0 + 16 * x.count ≤ length m) (sym v-is)
        (ids-inside p m on.held (shape_of kind) (ap shape_of (sym on.is)) k (subst (λ (x : Vector). k < x.count) v-is h))

    pub id-cast : k < 2 ^ 32
    id-cast = omega (arith, id-last, on.held.ends)

    pub id-product : 16 * k < 2 ^ 32
    id-product = omega (arith, id-last, on.held.ends)

    pub id-sum : v.offset.0 + 16 * k < 2 ^ 32
    id-sum = omega (arith, id-last, on.held.ends)

    pub id-inside : v.offset.0 + 16 * k + 16 ≤ length m
    id-inside = omega (arith, id-last)

  -- ---- the words of `element_entry`
  module _ (v : Vector) (v-is : v ≡ array_vector (shape_of kind) m) (k : ℕ) (h : k < v.count) where
    element-last : v.offset.0 + 12 * v.count ≤ length m
    element-last = subst (λ (x : Vector). x.offset.0 + 12 * x.count ≤ length m) (sym v-is)
        (array-inside p m on.held (shape_of kind) (ap shape_of (sym on.is)) k (subst (λ (x : Vector). k < x.count) v-is h))

    pub element-cast : k < 2 ^ 32
    element-cast = omega (arith, element-last, on.held.ends)

    pub element-product : 12 * k < 2 ^ 32
    element-product = omega (arith, element-last, on.held.ends)

    pub element-sum : v.offset.0 + 12 * k < 2 ^ 32
    element-sum = omega (arith, element-last, on.held.ends)

    pub element-next : v.offset.0 + 12 * k + 4 < 2 ^ 32
    element-next = omega (arith, element-last, on.held.ends)

    pub type-inside : v.offset.0 + 12 * k + 4 ≤ length m
    type-inside = omega (arith, element-last)

    pub value-inside : v.offset.0 + 12 * k + 4 + 8 ≤ length m
    value-inside = omega (arith, element-last)

pub ruleset ids-lie = (holds-header, holds-room, id-cast, id-product, id-sum, id-inside)

pub ruleset elements_lie = (holds-header, holds-room, element-cast, element-product, element-sum, element-next, type-inside, value-inside)
