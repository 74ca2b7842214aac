-- The vectors of a message by number, in the words of the code.
-- Assumes nothing.
use Prim.Native.Nat.{ℕ, zero, suc, ◌+◌, ◌*◌, ◌-◌, ◌/◌, ◌≤◌, ◌<◌}
use mathlib.Core.Path.{◌≡◌, refl, sym, ap, ◌∙◌}
use mathlib.Core.Logic.{inl, inr}
use mathlib.Core.List.{List, [], ◌∷◌}
use native.Mathlib.Omega.{arith}
use lib.ListN.{length, get_or, get_or-eq_default}
use lib.Dec.{leb}
use borrow.Author.Tests.{lt-leb, le-leb, leb-true, leb-false}
use Rattle.octets.proofs.Bools.{which}
use Rattle.vector.specs.declared.Vector.{Vector}
use Rattle.vector.specs.Vector.{part}
use Rattle.message.specs.declared.Shape.{Shape as D·Shape}
use Rattle.message.specs.declared.Shape.TheVariants as form
use Rattle.message.specs.Layout.{Shape, shape_as, head_of, shape_of, header_of, nego, alert, values_of, elements_at, elements_of, octet_vector, scheme_vector, extension_vector, exchange_vector, checksum_vector, alert_vector, vectors_of, content_of}
use Rattle.message.proofs.Shapes.{shape-nego, shape-exchange, shape-verify, shape-alert, room-nego, room-alert}
use Rattle.coverage.specs.Coverage.{header_in, vectors_in, no_vector, vector_in}

-- ---- the values of an array
pub values_length : (n : ℕ) (a : List ℕ) (at : ℕ) → length (values_of (elements_at n a at)) ≡ n
unfolding elements_at
values_length zero a at = refl
values_length (suc n) a at = ap suc (values_length n a (at + 12))

values-at : (n : ℕ) (a : List ℕ) (at k : ℕ) → k < n → get_or (values_of (elements_at n a at)) k no_vector ≡ octet_vector a (at + 12 * k + 4)
unfolding elements_at
values-at zero a at k h = absurd (omega arith)
values-at (suc n) a at zero h = let e : at + 4 ≡ at + 12 * 0 + 4 = omega arith in ap (octet_vector a) e
values-at (suc n) a at (suc k) h =
    let e : at + 12 + 12 * k + 4 ≡ at + 12 * suc k + 4 = omega arith in values-at n a (at + 12) k (omega arith) ∙ ap (octet_vector a) e

module _ (a : List ℕ) (k : ℕ) (v : Vector) where
  pub value_none : length a / 12 ≤ k → v ≡ no_vector → v ≡ get_or (values_of (elements_of a)) k no_vector
  value_none h e = e ∙ sym (get_or-eq_default (values_of (elements_of a)) no_vector {n = k} (omega (arith, values_length (length a / 12) a 0)))

  pub value-here : k < length a / 12 → v ≡ octet_vector a (12 * k + 4) → v ≡ get_or (values_of (elements_of a)) k no_vector
  value-here h e = let z : 12 * k + 4 ≡ 0 + 12 * k + 4 = omega arith in e ∙ ap (octet_vector a) z ∙ sym (values-at (length a / 12) a 0 k h)

-- ---- a place in a list
module _ (x : Vector) (k : ℕ) where
  pub only-first : k ≡ 0 → x ≡ get_or (x ∷ []) k no_vector
  only-first e = ap (λ (i : ℕ). get_or (x ∷ []) i no_vector) (sym e)

  pub only_none : (k ≡ 0 → ⊥) → (v : Vector) → v ≡ no_vector → v ≡ get_or (x ∷ []) k no_vector
  only_none h v e = e ∙ sym (get_or-eq_default (x ∷ []) no_vector {n = k} (omega arith))

behind-one : (x : Vector) (l : List Vector) (k : ℕ) → (k ≡ 0 → ⊥) → get_or (x ∷ l) k no_vector ≡ get_or l (k - 1) no_vector
behind-one x l zero h = absurd (h refl)
behind-one x l (suc k) h = let e : k ≡ suc k - 1 = omega arith in ap (λ (i : ℕ). get_or l i no_vector) e

past : {k : ℕ} → (k ≡ 0 → ⊥) → (k ≡ 1 → ⊥) → k - 1 ≡ 0 → ⊥
past h g e = omega arith

module _ (m : List ℕ) (k : ℕ) (v : Vector) where
  abbrev In : Shape → Type 0
  In shape = v ≡ get_or (vectors_of (content_of shape m)) k no_vector

  pub nego-first : k ≡ 0 → v ≡ scheme_vector m → In nego
  unfolding vectors_of content_of
  nego-first e f =
      f ∙ ap (λ (i : ℕ). get_or (scheme_vector m ∷ extension_vector m ∷ values_of (elements_of (part m (extension_vector m)))) i no_vector) (sym e)

  pub nego-second : k ≡ 1 → v ≡ extension_vector m → In nego
  unfolding vectors_of content_of
  nego-second e f =
      f ∙ ap (λ (i : ℕ). get_or (scheme_vector m ∷ extension_vector m ∷ values_of (elements_of (part m (extension_vector m)))) i no_vector) (sym e)

  pub nego-value : (k ≡ 0 → ⊥) → (k ≡ 1 → ⊥) → (a : Vector) → a ≡ extension_vector m → (es : List ℕ) → es ≡ part m a
      → v ≡ get_or (values_of (elements_of es)) (k - 2) no_vector → In nego
  unfolding vectors_of content_of
  nego-value h g a a-is es es-is e =
      let z : k - 1 - 1 ≡ k - 2 = omega arith in
      e ∙ ap (λ (l : List ℕ). get_or (values_of (elements_of l)) (k - 2) no_vector) (es-is ∙ ap (part m) a-is)
      ∙ ap (λ (i : ℕ). get_or (values_of (elements_of (part m (extension_vector m)))) i no_vector) (sym z)
      ∙ sym (behind-one (scheme_vector m) (extension_vector m ∷ values_of (elements_of (part m (extension_vector m)))) k h
      ∙ behind-one (extension_vector m) (values_of (elements_of (part m (extension_vector m)))) (k - 1) (past h g))

  pub alert-first : k ≡ 0 → v ≡ alert_vector m → In alert
  unfolding vectors_of content_of
  alert-first e f = f ∙ ap (λ (i : ℕ). get_or (alert_vector m ∷ values_of (elements_of (part m (alert_vector m)))) i no_vector) (sym e)

  pub alert-value : (k ≡ 0 → ⊥) → (a : Vector) → a ≡ alert_vector m → (es : List ℕ) → es ≡ part m a
      → v ≡ get_or (values_of (elements_of es)) (k - 1) no_vector → In alert
  unfolding vectors_of content_of
  alert-value h a a-is es es-is e =
      e ∙ ap (λ (l : List ℕ). get_or (values_of (elements_of l)) (k - 1) no_vector) (es-is ∙ ap (part m) a-is)
      ∙ sym (behind-one (alert_vector m) (values_of (elements_of (part m (alert_vector m)))) k h)

  -- ---- by the layout that the code names
  module _ (kind : ℕ) (r : D·Shape) (r-is : shape_as r ≡ shape_of kind) where
    pub kind-exchange : r ≡ form.Exchange → (x : Vector) → x ≡ exchange_vector m → v ≡ get_or (x ∷ []) k no_vector → In (shape_of kind)
    unfolding vectors_of content_of
    kind-exchange h x x-is e = rw (sym r-is ∙ ap shape_as h) (e ∙ ap (λ (y : Vector). get_or (y ∷ []) k no_vector) x-is)

    pub kind-verify : r ≡ form.Verify → (x : Vector) → x ≡ checksum_vector m → v ≡ get_or (x ∷ []) k no_vector → In (shape_of kind)
    unfolding vectors_of content_of
    kind-verify h x x-is e = rw (sym r-is ∙ ap shape_as h) (e ∙ ap (λ (y : Vector). get_or (y ∷ []) k no_vector) x-is)

-- ---- how many
module _ (kind : ℕ) (m : List ℕ) (h : header_of (shape_of kind) ≤ length m) where
  pub room-extensions : kind ≤ 1 → 96 ≤ length m
  room-extensions g = room-nego kind (length m) h g

  pub room-alerts : 1 < kind → 6 < kind → 72 ≤ length m
  room-alerts g f = room-alert kind (length m) h g (omega arith) (λ q. omega arith)

module _ (m : List ℕ) (kind : ℕ) where
  abbrev Has : ℕ → Type 0
  Has n = n ≡ length (vectors_of (content_of (shape_of kind) m))

  pub count-nego : kind ≤ 1 → (a : Vector) → a ≡ extension_vector m → (es : List ℕ) → es ≡ part m a → Has (2 + length es / 12)
  unfolding vectors_of content_of
  count-nego h a a-is es es-is =
      rw (shape-nego kind h)
      (let e : length es ≡ length (part m (extension_vector m)) = ap length (es-is ∙ ap (part m) a-is) in
      omega (arith, values_length (length (part m (extension_vector m)) / 12) (part m (extension_vector m)) 0))

  module _ (not-nego : 1 < kind) where
    pub count-one : kind ≤ 6 → Has 1
    unfolding vectors_of content_of
    count-one h = elim (which (leb kind 5)) [
      | inl e ↦ rw (shape-exchange kind not-nego (leb-true kind 5 e)) refl
      | inr e ↦ let g = leb-false kind 5 e in rw (shape-verify kind not-nego g (omega arith)) refl
    ]

    pub count-alert : 6 < kind → (a : Vector) → a ≡ alert_vector m → (es : List ℕ) → es ≡ part m a → Has (1 + length es / 12)
    unfolding vectors_of content_of
    count-alert h a a-is es es-is =
        rw (shape-alert kind not-nego (omega arith) (λ q. omega arith))
        (let e : length es ≡ length (part m (alert_vector m)) = ap length (es-is ∙ ap (part m) a-is) in
        omega (arith, values_length (length (part m (alert_vector m)) / 12) (part m (alert_vector m)) 0))

-- the same by the layout that the code names
module _ (m : List ℕ) (kind : ℕ) (r : D·Shape) (r-is : shape_as r ≡ shape_of kind) where
  pub counts-nego : r ≡ form.Nego → (a : Vector) → a ≡ extension_vector m → (es : List ℕ) → es ≡ part m a → 2 + length es / 12
      ≡ length (vectors_of (content_of (shape_of kind) m))
  unfolding shape_of
  counts-nego h a a-is es es-is = rw (sym r-is ∙ ap shape_as h) (count-nego m 0 (omega arith) a a-is es es-is)

  pub counts-exchange : r ≡ form.Exchange → 1 ≡ length (vectors_of (content_of (shape_of kind) m))
  unfolding shape_of
  counts-exchange h = rw (sym r-is ∙ ap shape_as h) (count-one m 2 (omega arith) (omega arith))

  pub counts-verify : r ≡ form.Verify → 1 ≡ length (vectors_of (content_of (shape_of kind) m))
  unfolding shape_of
  counts-verify h = rw (sym r-is ∙ ap shape_as h) (count-one m 6 (omega arith) (omega arith))

  pub counts-alert : r ≡ form.Alert → (a : Vector) → a ≡ alert_vector m → (es : List ℕ) → es ≡ part m a → 1 + length es / 12
      ≡ length (vectors_of (content_of (shape_of kind) m))
  unfolding shape_of
  counts-alert h a a-is es es-is = rw (sym r-is ∙ ap shape_as h) (count-alert m 7 (omega arith) (omega arith) a a-is es es-is)

-- ---- a message that has its header, and one that has not
module _ (m : List ℕ) where
  module _ (short : length m < header_in m) where
    none_in : vectors_in m ≡ []
    unfolding vectors_in
    none_in = rw (lt-leb _ _ short)

    pub none-count : 0 ≡ length (vectors_in m)
    none-count = rw none_in

    pub none_of : (k : ℕ) (v : Vector) → v ≡ no_vector → v ≡ vector_in m k
    none_of k v e = e ∙ sym (rw none_in (get_or-eq_default [] no_vector {n = k} (omega arith)))

  module _ (kind : ℕ) (kind-is : kind ≡ (head_of m).kind) (fits : header_in m ≤ length m) where
    all : vectors_of (content_of (shape_of kind) m) ≡ vectors_in m
    unfolding vectors_in
    all = ap (λ (k : ℕ). vectors_of (content_of (shape_of k) m)) kind-is ∙ sym (rw (le-leb (header_in m) (length m) fits) refl)

    pub count-all : (n : ℕ) → n ≡ length (vectors_of (content_of (shape_of kind) m)) → n ≡ length (vectors_in m)
    count-all n e = e ∙ ap length all

    pub of-all : (k : ℕ) (v : Vector) → v ≡ get_or (vectors_of (content_of (shape_of kind) m)) k no_vector → v ≡ vector_in m k
    of-all k v e = e ∙ ap (λ (l : List Vector). get_or l k no_vector) all

pub ruleset numbered = (
  value_none,
  value-here,
  only-first,
  only_none,
  nego-first,
  nego-second,
  nego-value,
  alert-first,
  alert-value,
  kind-exchange,
  kind-verify,
  counts-nego,
  counts-exchange,
  counts-verify,
  counts-alert,
  none-count,
  none_of,
  count-all,
  of-all,
)
