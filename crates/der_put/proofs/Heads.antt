-- Heads and sizes, in the words of the code.
-- Assumes nothing.
use Prim.Native.Nat.{ℕ, ◌+◌, ◌/◌, ◌%◌, ◌<◌, ◌≤◌}
use mathlib.Core.Path.{◌≡◌, refl, sym, ap, ◌∙◌}
use mathlib.Core.Bool.{Bool, true, false}
use mathlib.Core.List.{List, [], ◌∷◌, ◌++◌, append-nil}
use mathlib.Core.Logic.{◌⊎◌, inl, inr}
use native.Mathlib.Omega.{arith}
use lib.ListN.{length, length-append}
use lib.Dec.{ltb}
use borrow.Author.Tests.{lt-ltb, le-ltb, ltb-true, ltb-false}
use Rattle.octets.proofs.Bools.{which}
use Rattle.put.specs.Put.{Written}
use Rattle.put.proofs.Laws.{wrote, step, done, put-none}
use Rattle.der.specs.Element.{length_of, element}
use Rattle.der.specs.Grammar.{field_octets}
use Rattle.der.specs.Holder.{capped}
use Rattle.der_put.specs.Size.{head, head_size, element_size, given, field_size}

-- one of three forms
pub data Form (n : ℕ) : Type 0 where
  one : n < 128 → head_size n ≡ 2 → length_of n ≡ n ∷ [] → Form n
  two : 128 ≤ n → n < 256 → head_size n ≡ 3 → length_of n ≡ 0x81 ∷ n ∷ [] → Form n
  three : 256 ≤ n → head_size n ≡ 4 → length_of n ≡ 0x82 ∷ n / 256 ∷ n % 256 ∷ [] → Form n

pub form : (n : ℕ) → Form n
unfolding head_size length_of
form n = go (which (ltb n 128)) (which (ltb n 256)) where
  go : (ltb n 128 ≡ true) ⊎ (ltb n 128 ≡ false) → (ltb n 256 ≡ true) ⊎ (ltb n 256 ≡ false) → Form n
  go (inl a) b = one (ltb-true n 128 a) (rw a) (rw a)
  go (inr a) (inl b) = two (ltb-false n 128 a) (ltb-true n 256 b) (rw (a, b)) (rw (a, b))
  go (inr a) (inr b) = three (ltb-false n 256 b) (rw (a, b)) (rw (a, b))

module _ (n : ℕ) where
  pub size-one : n < 128 → head_size n ≡ 2
  unfolding head_size
  size-one h = rw (lt-ltb n 128 h)

  pub size-two : 128 ≤ n → n < 256 → head_size n ≡ 3
  unfolding head_size
  size-two h k = rw (le-ltb n 128 h, lt-ltb n 256 k)

  pub size-three : 256 ≤ n → head_size n ≡ 4
  unfolding head_size
  size-three h = let g : 128 ≤ n = omega arith in rw (le-ltb n 128 g, le-ltb n 256 h)

  pub element-one : n < 128 → 2 + n ≡ element_size n
  element-one h = rw (size-one h)

  pub element-two : 128 ≤ n → n < 256 → 3 + n ≡ element_size n
  element-two h k = rw (size-two h k)

  pub element-three : 256 ≤ n → 4 + n ≡ element_size n
  element-three h = rw (size-three h)

pub ruleset sizes = (element-one, element-two, element-three)

pub size-bounds : (n : ℕ) → (2 ≤ head_size n) × (head_size n ≤ 4)
size-bounds n = go (form n) where
  go : Form n → (2 ≤ head_size n) × (head_size n ≤ 4)
  go (one h e x) = (omega arith, omega arith)
  go (two h k e x) = (omega arith, omega arith)
  go (three h e x) = (omega arith, omega arith)

pub length-head : (t n : ℕ) → length (head t n) ≡ head_size n
length-head t n = go (form n) where
  go : Form n → length (head t n) ≡ head_size n
  go (one h e x) = rw (e, x)
  go (two h k e x) = rw (e, x)
  go (three h e x) = rw (e, x)

pub length-element : (t : ℕ) (c : List ℕ) → length (element t c) ≡ element_size (length c)
unfolding element
length-element t c = length-append (head t (length c)) c ∙ rw (length-head t (length c))

pub length-field : (t u : ℕ) (b : Bool) (v : List ℕ) → length (field_octets t u (given b v)) ≡ field_size b (length v)
unfolding field_octets
length-field t u true v = length-element t (element u v) ∙ rw (length-element u v)
length-field t u false v = refl

-- a capped size says as much of what is around it
pub capped-element : (x y : ℕ) → capped x ≡ capped y → capped (element_size x) ≡ capped (element_size y)
capped-element x y e = go (which (ltb x 65536)) where
  go : (ltb x 65536 ≡ true) ⊎ (ltb x 65536 ≡ false) → capped (element_size x) ≡ capped (element_size y)
  go (inl a) = let h : x < 65536 = ltb-true x 65536 a in let z : x ≡ y = omega arith in rw z
  go (inr a) = let h : 65536 ≤ x = ltb-false x 65536 a in omega arith

module _ (there : Bool) (n : ℕ) where
  pub field-long : there ≡ true → 65535 < n → 65536 ≡ capped (field_size there n)
  field-long e h = rw e (omega arith)

  pub field-size : there ≡ true → (a b c : ℕ) → a ≡ element_size n → b ≡ element_size a → c ≡ capped b → c ≡ capped (field_size there n)
  field-size e a b c x y z = rw e (z ∙ rw (y, x))

  pub field-none : there ≡ false → 0 ≡ capped (field_size there n)
  field-none e = rw e (omega arith)

pub size-limit : (n a : ℕ) → n ≤ 65535 → a ≡ element_size n → a ≤ 1000000
size-limit n a h e = let b = size-bounds n in omega arith

pub ruleset fieldSizes = (field-long, field-size, field-none, size-limit)

-- what was put is a head
module _ (d : List ℕ) (at t n : ℕ) (d' : List ℕ) (r : ℕ) where
  pub head-one : n < 128 → Written d at 2 (t ∷ n ∷ []) d' r → Written d at (head_size n) (head t n) d' r
  unfolding length_of
  head-one h w = rw (size-one n h, lt-ltb n 128 h) w

  pub head-two : 128 ≤ n → n < 256 → Written d at 3 (t ∷ 0x81 ∷ n ∷ []) d' r → Written d at (head_size n) (head t n) d' r
  unfolding length_of
  head-two h k w = rw (size-two n h k, le-ltb n 128 h, lt-ltb n 256 k) w

  pub head_three : 256 ≤ n → Written d at 4 (t ∷ 0x82 ∷ n / 256 ∷ n % 256 ∷ []) d' r → Written d at (head_size n) (head t n) d' r
  unfolding length_of
  head_three h w = let g : 128 ≤ n = omega arith in rw (size-three n h, le-ltb n 128 g, le-ltb n 256 h) w

pub ruleset puts = (head-one, head-two, head_three)

-- octets behind octets
pub both : {d d1 d2 v w : List ℕ} {at n m a1 a2 : ℕ} → Written d at n v d1 a1 → Written d1 a1 m w d2 a2 → at + (n + m) ≤ length d
    → Written d at (n + m) (v ++ w) d2 a2
both {v} {w} {n} {m} x y h =
    let e : length (v ++ (w ++ [])) ≡ n + m = length-append v (w ++ []) ∙ rw (append-nil, x.size, y.size) in
    rw append-nil at (wrote (n + m) (step x (step y done)) e h)

pub nothing : (d : List ℕ) (at : ℕ) → Written d at 0 [] d at
nothing d at = record { size = refl; after = omega arith; holds = sym (put-none d at) }

pub field-octets : (t u : ℕ) (there : Bool) (v : List ℕ) → there ≡ true
    → field_octets t u (given there v) ≡ head t (element_size (length v)) ++ element u v
unfolding field_octets element
field-octets t u there v e = rw e (ap (λ (n : ℕ). head t n ++ element u v) (length-element u v))

pub field-absent : (t u : ℕ) (there : Bool) (v d : List ℕ) (at : ℕ) → there ≡ false
    → Written d at (field_size there (length v)) (field_octets t u (given there v)) d at
unfolding field_octets
field-absent t u there v d at e = rw e (nothing d at)

pub field_put : (t u : ℕ) (there : Bool) (v d : List ℕ) (at a : ℕ) (d1 : List ℕ) (a1 : ℕ) (d2 : List ℕ) (a2 : ℕ) → there ≡ true
    → a ≡ element_size (length v)
    → Written d at (head_size a) (head t a) d1 a1 → Written d1 a1 (element_size (length v)) (element u v) d2 a2
    → at + field_size there (length v) ≤ length d
    → Written d at (field_size there (length v)) (field_octets t u (given there v)) d2 a2
field_put t u there v d at a d1 a1 d2 a2 e a-is x y room =
    let z : field_size there (length v) ≡ head_size a + element_size (length v) = rw (e, a-is) in
    let h : at + (head_size a + element_size (length v)) ≤ length d = omega arith in
    rw (field-octets t u there v e, e) (rw a-is at (both x y h))
