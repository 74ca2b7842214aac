-- The field at fault, in the words of the code.
-- Assumes nothing.
use Prim.Native.Nat.{ℕ, suc, ◌+◌, ◌*◌, ◌-◌, ◌/◌, ◌<◌, ◌≤◌, ◌^◌}
use mathlib.Core.Path.{◌≡◌, refl, sym, ap, subst, ◌∙◌}
use mathlib.Core.Bool.{Bool, true, false, cond, not}
use mathlib.Core.Logic.{inl, inr}
use mathlib.Core.List.{List, [], ◌∷◌}
use native.Mathlib.Numerals.{add-one}
use native.Mathlib.Omega.{arith}
use lib.ListN.{length, drop, length-take, length-drop, drop_of_length-le}
use lib.Seq.{drop-cons}
use lib.Dec.{leb, eqb}
use borrow.Author.Tests.{le-leb, lt-leb, lt-ltb, le-ltb, eq-eqb, ne_eqb, leb-true, leb-false}
use Rattle.octets.proofs.Bools.{which}
use Rattle.octets.specs.Octets.{le, signed32, negative}
use Rattle.refusal.specs.declared.Refusal.{Refusal}
use Rattle.refusal.specs.declared.Refusal.TheVariants as refusal
use Rattle.refusal.specs.Refusals.{number_of}
use Rattle.refusal.proofs.Numbers.{number_once}
use Rattle.vector.specs.declared.Vector.{Vector}
use Rattle.vector.specs.Vector.{keeps_rule, part, shown}
use Rattle.message.specs.Layout.{nego, alert, head_of, shape_of, header_of, Element, elements_at, elements_of, extension_vector, alert_vector, content_of, content_in, vectors_of}
use Rattle.message.proofs.Shapes.{header-least}
use Rattle.parts.proofs.Shows.{length-elements}
use Rattle.coverage.specs.Coverage.{header_in, vectors_in, no_vector, vector_in}
use Rattle.coverage.proofs.Numbered.{count-nego, count-one, count-alert}
use Rattle.faults.specs.declared.Spot.{Spot}
use Rattle.faults.specs.Faults.{spot, no_spot, first_broken, broken_in, vector_spot, broken_spot, first_critical, critical_spot, checksum_spot, spot_of}

-- ---- the words of `broken_vector`
pub type-room : (m : List ℕ) → header_in m ≤ length m → 8 + 4 ≤ length m
type-room m h = omega (arith, header-least (shape_of (head_of m).kind))

pub broken-begin : (m : List ℕ) (kind : ℕ) → kind ≡ le 4 m 8 → (h : ℕ) → h ≡ header_of (shape_of kind)
    → broken_in m ≡ first_broken h (length m) (drop 0 (vectors_in m)) 0
unfolding head_of
broken-begin m kind kind-is h e = ap (λ (x : ℕ). first_broken x (length m) (vectors_in m) 0) (sym (e ∙ ap (λ (x : ℕ). header_of (shape_of x)) kind-is))

module _ (m : List ℕ) (h k : ℕ) (on : broken_in m ≡ first_broken h (length m) (drop k (vectors_in m)) k) where
  pub broken-end : (n : ℕ) → n ≡ length (vectors_in m) → n ≤ k → length (vectors_in m) ≤ broken_in m
  unfolding first_broken
  broken-end n n-is g =
      let all : length (vectors_in m) ≤ k = omega arith in
      omega (arith, on ∙ ap (λ (l : List Vector). first_broken h (length m) l k) (drop_of_length-le (vectors_in m) all))

  module _ (n : ℕ) (n-is : n ≡ length (vectors_in m)) (more : k < n) (v : Vector) (v-is : v ≡ vector_in m k) (b : Bool)
      (b-is : b ≡ keeps_rule h (length m) v) where
    next-is : drop k (vectors_in m) ≡ v ∷ drop (k + 1) (vectors_in m)
    next-is =
        drop-cons (vectors_in m) k no_vector (omega arith) ∙ ap (λ (x : Vector). x ∷ drop (suc k) (vectors_in m)) (sym v-is)
        ∙ ap (λ (j : ℕ). v ∷ drop j (vectors_in m)) (sym (add-one k))

    pub broken-here : b ≡ false → k ≡ broken_in m
    unfolding first_broken
    broken-here t =
        sym (on ∙ ap (λ (l : List Vector). first_broken h (length m) l k) next-is
        ∙ ap (λ (x : Bool). cond x (first_broken h (length m) (drop (k + 1) (vectors_in m)) (k + 1)) k) (sym b-is ∙ t))

    pub broken-next : b ≡ true → broken_in m ≡ first_broken h (length m) (drop (k + 1) (vectors_in m)) (k + 1)
    unfolding first_broken
    broken-next t =
        on ∙ ap (λ (l : List Vector). first_broken h (length m) l k) next-is
        ∙ ap (λ (x : Bool). cond x (first_broken h (length m) (drop (k + 1) (vectors_in m)) (k + 1)) k) (sym b-is ∙ t)

pub ruleset broken = (broken-begin, broken-end, broken-here, broken-next)

-- ---- the words of `critical_element`
pub critical-begin : (a : List ℕ) → first_critical (elements_of a) 0 ≡ first_critical (elements_at (length a / 12 - 0) a (12 * 0)) 0
critical-begin a = let e : length a / 12 ≡ length a / 12 - 0 = omega arith in ap (λ (j : ℕ). first_critical (elements_at j a 0) 0) e

module _ (a : List ℕ) (n k : ℕ) (on : first_critical (elements_of a) 0 ≡ first_critical (elements_at (n - k) a (12 * k)) k) where
  pub critical-end : k ≡ n → n ≡ first_critical (elements_of a) 0
  unfolding first_critical elements_at
  critical-end h = let e : n - k ≡ 0 = omega arith in sym (on ∙ ap (λ (j : ℕ). first_critical (elements_at j a (12 * k)) k) e ∙ h)

  module _ (more : k < n) (b : Bool) (b-is : b ≡ negative (signed32 (le 4 a (12 * k)))) where
    step_is : first_critical (elements_at (n - k) a (12 * k)) k
        ≡ cond (not (negative (signed32 (le 4 a (12 * k))))) (first_critical (elements_at (n - (k + 1)) a (12 * (k + 1))) (k + 1)) k
    unfolding first_critical elements_at
    step_is =
        let e : n - k ≡ suc (n - (k + 1)) = omega arith in
        let f : 12 * k + 12 ≡ 12 * (k + 1) = omega arith in
        ap (λ (j : ℕ). first_critical (elements_at j a (12 * k)) k) e
        ∙ ap (λ (j : ℕ). cond (not (negative (signed32 (le 4 a (12 * k))))) (first_critical (elements_at (n - (k + 1)) a j) (k + 1)) k) f

    pub critical-here : b ≡ true → k ≡ first_critical (elements_of a) 0
    critical-here t =
        sym (on ∙ step_is ∙ ap (λ (x : Bool). cond (not x) (first_critical (elements_at (n - (k + 1)) a (12 * (k + 1))) (k + 1)) k) (sym b-is ∙ t))

    pub critical-next : b ≡ false → first_critical (elements_of a) 0 ≡ first_critical (elements_at (n - (k + 1)) a (12 * (k + 1))) (k + 1)
    critical-next t =
        on ∙ step_is ∙ ap (λ (x : Bool). cond (not x) (first_critical (elements_at (n - (k + 1)) a (12 * (k + 1))) (k + 1)) k) (sym b-is ∙ t)

pub ruleset critical = (critical-begin, critical-end, critical-here, critical-next)

-- ---- where a vector's offset and size stand
module _ (m : List ℕ) (k : ℕ) where
  pub nego-first : k ≡ 0 → (x : Spot) → x ≡ spot 9 0 80 6 → x ≡ vector_spot nego m k
  nego-first e x x-is = rw e x-is

  pub nego-second : (k ≡ 0 → ⊥) → k ≡ 1 → (x : Spot) → x ≡ spot 10 0 88 6 → x ≡ vector_spot nego m k
  nego-second h e x x-is = rw e x-is

  pub nego-value : (k ≡ 0 → ⊥) → (k ≡ 1 → ⊥) → (v : Vector) → v ≡ extension_vector m
      → ◌≡◌ {A = Spot} (record { what = 28; number = k - 2; at = v.offset.0 + 12 * (k - 2) + 4; size = 8 }) (vector_spot nego m k)
  nego-value h g v v-is = rw v-is (simp (ne_eqb k 0 h, ne_eqb k 1 g))

  pub alert-first : k ≡ 0 → (x : Spot) → x ≡ spot 18 0 60 6 → x ≡ vector_spot alert m k
  alert-first e x x-is = rw e x-is

  pub alert-value : (k ≡ 0 → ⊥) → (v : Vector) → v ≡ alert_vector m
      → ◌≡◌ {A = Spot} (record { what = 30; number = k - 1; at = v.offset.0 + 12 * (k - 1) + 4; size = 8 }) (vector_spot alert m k)
  alert-value h v v-is = rw v-is (simp (ne_eqb k 0 h))

pub ruleset vector-spots = (nego-first, nego-second, nego-value, alert-first, alert-value)

-- ---- the words of `broken_spot`
part-short : (m : List ℕ) (v : Vector) → length (part m v) ≤ length m
part-short m v = omega (arith, length-take (v.count * v.size) (drop v.offset.0 m), length-drop v.offset.0 m)

few-of : (m : List ℕ) (kind : ℕ) → length (vectors_of (content_of (shape_of kind) m)) ≤ 2 + length m / 12
few-of m kind = elim (which (leb kind 1)) [
  | inl e ↦ omega
      (arith, count-nego m kind (leb-true _ _ e) (extension_vector m) refl (part m (extension_vector m)) refl, part-short m (extension_vector m))
  | inr e ↦ elim (which (leb kind 6)) [
    | inl g ↦ omega (arith, count-one m kind (leb-false _ _ e) (leb-true _ _ g))
    | inr g ↦ omega (
      arith,
      count-alert m kind (leb-false _ _ e) (leb-false _ _ g) (alert_vector m) refl (part m (alert_vector m)) refl,
      part-short m
          (alert_vector m),
    )
  ]
]

few-vectors : (m : List ℕ) → length (vectors_in m) ≤ 2 + length m / 12
unfolding vectors_in
few-vectors m = elim (which (leb (header_in m) (length m))) [
  | inl e ↦ rw e (few-of m (head_of m).kind)
  | inr e ↦ rw e (omega arith)
]

module _ (m : List ℕ) (n : ℕ) (n-is : n ≡ length (vectors_in m)) where
  pub vectors-none : n ≡ 0 → no_spot ≡ broken_spot m
  unfolding broken_spot
  vectors-none z = let h : length (vectors_in m) ≤ broken_in m = omega arith in sym (simp (le-ltb _ _ h))

  pub header-there : (n ≡ 0 → ⊥) → header_in m ≤ length m
  unfolding vectors_in
  header-there some = elim (which (leb (header_in m) (length m))) [
    | inl e ↦ leb-true _ _ e
    | inr e ↦ absurd (some (n-is ∙ ap (λ (b : Bool). length (cond b (vectors_of (content_in m)) [])) e))
  ]

  pub type-there : (n ≡ 0 → ⊥) → 8 + 4 ≤ length m
  type-there some = let a = header-there some in omega (arith, header-least (shape_of (head_of m).kind))

  pub kind-there : (n ≡ 0 → ⊥) → (kind : ℕ) → kind ≡ le 4 m 8 → header_of (shape_of kind) ≤ length m
  unfolding head_of
  kind-there some kind e = subst (λ (x : ℕ). header_of (shape_of x) ≤ length m) (sym e) (header-there some)

module _ (m : List ℕ) where
  pub broken-none : length (vectors_in m) ≤ broken_in m → no_spot ≡ broken_spot m
  unfolding broken_spot
  broken-none h = sym (simp (le-ltb _ _ h))

  module _ (k : ℕ) (k-is : k ≡ broken_in m) (inside : k < length (vectors_in m)) where
    pub broken-few : length m ≤ 65535 → k < 65536
    broken-few h = omega (arith, few-vectors m)

    pub broken-some : (kind : ℕ) → kind ≡ le 4 m 8 → (x : Spot) → x ≡ vector_spot (shape_of kind) m k → x ≡ broken_spot m
    unfolding broken_spot head_of
    broken-some kind kind-is x e =
        let g : broken_in m < length (vectors_in m) = omega arith in
        (rw (kind-is, k-is) at e) ∙ sym (simp (lt-ltb _ _ g))

-- ---- the words of `critical_spot` and `checksum_spot`
critical-most : (es : List Element) (k : ℕ) → first_critical es k ≤ k + length es
unfolding first_critical
critical-most [] k = omega arith
critical-most (e ∷ es) k = elim (which (not (negative (signed32 e.type)))) [
  | inl t ↦ rw t (omega (arith, critical-most es (k + 1)))
  | inr t ↦ rw t (omega arith)
]

shown-short : (m : List ℕ) (v : Vector) → length (shown 96 m v) ≤ length m
unfolding shown
shown-short m v = elim (which (keeps_rule 96 (length m) v)) [
  | inl e ↦ rw e (part-short m v)
  | inr e ↦ rw e (omega arith)
]

module _ (m : List ℕ) where
  pub critical-none : length m < 96 → no_spot ≡ critical_spot m
  unfolding critical_spot
  critical-none h = sym (simp (lt-leb _ _ h))

  module _ (a : List ℕ) (a-is : a ≡ shown 96 m (extension_vector m)) (k : ℕ) (k-is : k ≡ first_critical (elements_of a) 0) where
    critical-few : length m ≤ 65535 → k < 65536
    critical-few h =
        omega (arith, critical-most (elements_of a) 0, length-elements (length a / 12) a 0, ap length a-is, shown-short m (extension_vector m))

    pub critical-cast : length m ≤ 65535 → k < 2 ^ 32
    critical-cast h = omega (arith, critical-few h)

    pub critical-product : length m ≤ 65535 → 12 * k < 2 ^ 64
    critical-product h = omega (arith, critical-few h)

    pub critical-sum : length m ≤ 65535 → (o : ℕ) → o < 2 ^ 32 → o + 12 * k < 2 ^ 64
    critical-sum h o g = omega (arith, critical-few h)

    pub critical-some : 96 ≤ length m → (v : Vector) → v ≡ extension_vector m
        → ◌≡◌ {A = Spot} (record { what = 27; number = k; at = v.offset.0 + 12 * k; size = 4 }) (critical_spot m)
    unfolding critical_spot
    critical-some h v v-is = rw (v-is, k-is, a-is) (sym (simp (le-leb _ _ h)))

  pub checksum-none : length m < 80 → no_spot ≡ checksum_spot m
  unfolding checksum_spot
  checksum-none h = sym (simp (lt-leb _ _ h))

  module _ (h : 80 ≤ length m) (n : ℕ) (n-is : n ≡ le 4 m 56) (x : Spot) where
    pub checksum-scheme : n ≡ 20 → x ≡ spot 14 0 60 4 → x ≡ checksum_spot m
    unfolding checksum_spot
    checksum-scheme e x-is = x-is ∙ sym (simp (le-leb _ _ h, eq-eqb (le 4 m 56) 20 (sym n-is ∙ e)))

    pub checksum-header : (n ≡ 20 → ⊥) → x ≡ spot 13 0 56 4 → x ≡ checksum_spot m
    unfolding checksum_spot
    checksum-header e x-is = x-is ∙ sym (simp (le-leb _ _ h, ne_eqb (le 4 m 56) 20 (λ z. e (n-is ∙ z))))

pub ruleset critical-spots = (critical-none, critical-cast, critical-product, critical-sum, critical-some)

pub ruleset checksum-spots = (checksum-none, checksum-scheme, checksum-header)

-- ---- the words of `spot_of`
pub at-number : (n : ℕ) (m : List ℕ) (x : Spot) (k : ℕ) → n ≡ k → x ≡ spot_of k m → x ≡ spot_of n m
at-number n m x k e f = f ∙ ap (λ (j : ℕ). spot_of j m) (sym e)

module _ (e : Refusal) (m : List ℕ) where
  pub at_refusal : (r : Refusal) → e ≡ r → (x : Spot) → x ≡ spot_of (number_of r) m → x ≡ spot_of (number_of e) m
  at_refusal r is x f = f ∙ ap (λ (y : Refusal). spot_of (number_of y) m) (sym is)

  another : (r : Refusal) → (e ≡ r → ⊥) → eqb (number_of e) (number_of r) ≡ false
  another r not = ne_eqb (number_of e) (number_of r) (λ same. not (number_once e r same))

  pub at_none : (e ≡ refusal.Signature → ⊥) → (e ≡ refusal.Type → ⊥) → (e ≡ refusal.HeaderLength → ⊥) → (e ≡ refusal.MessageLength → ⊥)
      → (e ≡ refusal.Sequence → ⊥) → (e ≡ refusal.Conversation → ⊥) → (e ≡ refusal.Version → ⊥) → (e ≡ refusal.Vector → ⊥)
      → (e ≡ refusal.CriticalExtension → ⊥) → (e ≡ refusal.Checksum → ⊥) → no_spot ≡ spot_of (number_of e) m
  unfolding spot_of
  at_none a b c d f g h i j k =
      sym
      (simp (
        another refusal.Signature a,
        another refusal.Type b,
        another refusal.HeaderLength c,
        another refusal.MessageLength d,
        another refusal.Sequence f,
        another refusal.Conversation g,
        another refusal.Version h,
        another refusal.Vector i,
        another refusal.CriticalExtension j,
        another refusal.Checksum k,
      ))

pub ruleset spots = (at_refusal, at_none)
