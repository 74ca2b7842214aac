-- The layout of a type number, by the tests of the code.
-- Assumes nothing.
use Prim.Native.Nat.{ℕ, ◌≤◌, ◌<◌}
use mathlib.Core.Path.{◌≡◌, sym, ap, ◌∙◌}
use mathlib.Core.List.{List}
use native.Mathlib.Omega.{arith}
use borrow.Author.Tests.{le-leb, lt-leb, eq-eqb, ne_eqb}
use Rattle.message.specs.Layout.{Shape, nego, exchange, verify, alert, shape_of, header_of}
use Rattle.message.specs.Check.{refusal_of}

module _ (kind : ℕ) where
  pub shape-nego : kind ≤ 1 → shape_of kind ≡ nego
  unfolding shape_of
  shape-nego p = simp (le-leb _ _ p)

  pub shape-exchange : 1 < kind → kind ≤ 5 → shape_of kind ≡ exchange
  unfolding shape_of
  shape-exchange p q = simp (lt-leb _ _ p, le-leb _ _ q)

  pub shape-verify : 1 < kind → 5 < kind → kind ≡ 6 → shape_of kind ≡ verify
  unfolding shape_of
  shape-verify p q e = simp (lt-leb _ _ p, lt-leb _ _ q, eq-eqb _ _ e)

  pub shape-alert : 1 < kind → 5 < kind → (kind ≡ 6 → ⊥) → shape_of kind ≡ alert
  unfolding shape_of
  shape-alert p q e = simp (lt-leb _ _ p, lt-leb _ _ q, ne_eqb _ _ e)

-- the type number that is none of the first seven
above-three : (n : ℕ) → (n ≡ 0 → ⊥) → (n ≡ 1 → ⊥) → (n ≡ 2 → ⊥) → (n ≡ 3 → ⊥) → 4 ≤ n
above-three n a b c d = omega arith

above-six : (n : ℕ) → 4 ≤ n → n ≤ 7 → (n ≡ 4 → ⊥) → (n ≡ 5 → ⊥) → (n ≡ 6 → ⊥) → 7 ≡ n
above-six n l h a b c = omega arith

pub last-kind : (n : ℕ) → n ≤ 7 → (n ≡ 0 → ⊥) → (n ≡ 1 → ⊥) → (n ≡ 2 → ⊥) → (n ≡ 3 → ⊥) → (n ≡ 4 → ⊥) → (n ≡ 5 → ⊥) → (n ≡ 6 → ⊥) → 7 ≡ n
last-kind n h a b c d e f g = above-six n (above-three n a b c d) h e f g

-- every header has at least 64 octets
pub header-least : (shape : Shape) → 64 ≤ header_of shape
header-least nego = omega arith
header-least exchange = omega arith
header-least verify = omega arith
header-least alert = omega arith

-- what is known of a layout is known of each type number that has it
pub header-shape : (s t : Shape) → s ≡ t → header_of t ≡ header_of s
header-shape s t e = ap header_of (sym e)

pub refusal-shape : (s t : Shape) (m : List ℕ) (x : ℕ) → s ≡ t → x ≡ refusal_of t m → x ≡ refusal_of s m
refusal-shape s t m x e h = h ∙ ap (λ (y : Shape). refusal_of y m) (sym e)

module _ (kind n : ℕ) (h : header_of (shape_of kind) ≤ n) where
  pub room-nego : kind ≤ 1 → 96 ≤ n
  room-nego p = rw (shape-nego kind p) at h

  pub room-exchange : 1 < kind → kind ≤ 5 → 64 ≤ n
  room-exchange p q = rw (shape-exchange kind p q) at h

  pub room-verify : 1 < kind → 5 < kind → kind ≡ 6 → 80 ≤ n
  room-verify p q e = rw (shape-verify kind p q e) at h

  pub room-alert : 1 < kind → 5 < kind → (kind ≡ 6 → ⊥) → 72 ≤ n
  room-alert p q e = rw (shape-alert kind p q e) at h

pub ruleset shapes =
    (shape-nego, shape-exchange, shape-verify, shape-alert, header-shape, refusal-shape, room-nego, room-exchange, room-verify, room-alert)
