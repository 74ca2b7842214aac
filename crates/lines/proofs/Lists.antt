-- Ids, elements and lines by their place in a list.
-- Assumes nothing.
use Prim.Native.Nat.{ℕ, zero, suc, ◌+◌, ◌*◌, ◌-◌, ◌<◌, ◌≤◌}
use mathlib.Core.Path.{◌≡◌, refl, ap, ◌∙◌}
use mathlib.Core.List.{List, [], ◌∷◌, ◌++◌}
use native.Mathlib.Omega.{arith}
use lib.ListN.{length, get_or, get_or-append}
use lib.Seq.{get_or-append-add}
use Rattle.message.specs.Layout.{Element, element_at, elements_at}
use Rattle.lines.specs.Lines.{numbered_from}

pub length-numbered : {A : Type 0} (f : ℕ → A → List (List ℕ)) (k : ℕ) (xs : List A) → length (numbered_from f k xs) ≡ length xs
unfolding numbered_from
length-numbered f k [] = refl
length-numbered f k (x ∷ xs) = ap suc (length-numbered f (k + 1) xs)

pub get_or-numbered : {A : Type 0} (f : ℕ → A → List (List ℕ)) (k : ℕ) (xs : List A) (i : ℕ) (z : A) → i < length xs
    → get_or (numbered_from f k xs) i [] ≡ f (k + i) (get_or xs i z)
unfolding numbered_from
get_or-numbered f k [] i z h = absurd (omega arith)
get_or-numbered f k (x ∷ xs) zero z h = let e : k ≡ k + 0 = omega arith in ap (λ (n : ℕ). f n x) e
get_or-numbered f k (x ∷ xs) (suc i) z h =
    let e : k + 1 + i ≡ k + suc i = omega arith in get_or-numbered f (k + 1) xs i z (omega arith) ∙ ap (λ (n : ℕ). f n (get_or xs i z)) e

pub get_or-elements : (n : ℕ) (a : List ℕ) (at i : ℕ) (z : Element) → i < n → get_or (elements_at n a at) i z ≡ element_at a (at + 12 * i)
unfolding elements_at
get_or-elements zero a at i z h = absurd (omega arith)
get_or-elements (suc n) a at zero z h = let e : at ≡ at + 12 * 0 = omega arith in ap (element_at a) e
get_or-elements (suc n) a at (suc i) z h =
    let e : at + 12 + 12 * i ≡ at + 12 * suc i = omega arith in get_or-elements n a (at + 12) i z (omega arith) ∙ ap (element_at a) e

-- a place in two lists, one behind the other
module _ {A : Type 0} (xs ys : List A) (i n : ℕ) (z : A) (size : length xs ≡ n) where
  pub in-first : i < n → get_or (xs ++ ys) i z ≡ get_or xs i z
  in-first h = get_or-append xs ys z i (omega arith)

  pub in-second : n ≤ i → get_or (xs ++ ys) i z ≡ get_or ys (i - n) z
  in-second h =
      let e : i ≡ length xs + (i - n) = omega arith in
      ap (λ (k : ℕ). get_or (xs ++ ys) k z) e ∙ get_or-append-add xs ys (i - n) z
