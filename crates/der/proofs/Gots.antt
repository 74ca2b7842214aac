-- What was got was got from a part that was got.
-- Assumes nothing.
use Prim.Native.Nat.{ℕ}
use mathlib.Core.Path.{◌≡◌, refl}
use mathlib.Core.Bool.{Bool, true, false}
use mathlib.Core.List.{List, [], ◌∷◌}
use native.Mathlib.Omega.{arith}
use Rattle.der.specs.Got.{Got, ok, no, bind, check}
use Rattle.der.specs.Grammar.{closed}

pub no_ok : {A B : Type 0} (n : ℕ) (a : A) → no n ≡ ok a → B
no_ok n a e = let z : ◌≡◌ {A = ℕ} 0 1 = cc in absurd (omega arith)

pub bind_ok : {A B : Type 0} (g : Got A) (f : A → Got B) (b : B) → bind g f ≡ ok b → (a : A) × (g ≡ ok a) × (f a ≡ ok b)
bind_ok (ok a) f b e = (a, refl, e)
bind_ok (no n) f b e = no_ok n b e

pub check-ok : {A : Type 0} (b : Bool) (n : ℕ) (g : Got A) (a : A) → check b n g ≡ ok a → (b ≡ true) × (g ≡ ok a)
unfolding check
check-ok true n g a e = (refl, e)
check-ok false n g a e = no_ok n a e

pub closed-ok : {A : Type 0} (s : List ℕ) (a b : A) → closed s a ≡ ok b → (s ≡ []) × (a ≡ b)
unfolding closed
closed-ok [] a b e = (refl, cc)
closed-ok (x ∷ s) a b e = no_ok 22 b e
