-- Lists of entries by number.
-- Assumes nothing.
use Prim.Native.Nat.{ℕ, zero, suc, ◌+◌, ◌-◌, ◌<◌, ◌≤◌}
use mathlib.Core.Path.{◌≡◌, refl, ap, ◌∙◌}
use mathlib.Core.List.{List, ◌++◌}
use native.Mathlib.Omega.{arith}
use lib.ListN.{length, get_or, get_or-append}
use lib.Seq.{get_or-append-add}
use Rattle.entries.specs.declared.Entry.{Entry}
use Rattle.entries.specs.Entries.{listed}
use Rattle.entries.specs.Lookup.{no_entry}

pub listed-length : (f : ℕ → Entry) (n k : ℕ) → length (listed f n k) ≡ n
unfolding listed
listed-length f zero k = refl
listed-length f (suc n) k = ap suc (listed-length f n (k + 1))

from_on : (f : ℕ → Entry) (n b k : ℕ) → k < n → get_or (listed f n b) k no_entry ≡ f (b + k)
unfolding listed
from_on f zero b k h = absurd (omega arith)
from_on f (suc n) b zero h = let e : b ≡ b + 0 = omega arith in ap f e
from_on f (suc n) b (suc k) h = let e : b + 1 + k ≡ b + suc k = omega arith in from_on f n (b + 1) k (omega arith) ∙ ap f e

pub listed_at : (f : ℕ → Entry) (n k : ℕ) → k < n → get_or (listed f n 0) k no_entry ≡ f k
listed_at f n k h = let e : 0 + k ≡ k = omega arith in from_on f n 0 k h ∙ ap f e

module _ (a b : List Entry) (k : ℕ) where
  pub in-front : k < length a → get_or (a ++ b) k no_entry ≡ get_or a k no_entry
  in-front h = get_or-append a b no_entry k h

  pub behind : length a ≤ k → get_or (a ++ b) k no_entry ≡ get_or b (k - length a) no_entry
  behind h =
      let e : k ≡ length a + (k - length a) = omega arith in
      ap (λ (i : ℕ). get_or (a ++ b) i no_entry) e ∙ get_or-append-add a b (k - length a) no_entry
