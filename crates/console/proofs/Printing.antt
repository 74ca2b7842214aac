-- The loop of windows over a listing: it gets on while there are lines, and stops behind the last. Counts of octets that are read.
-- Assumes nothing.
use Prim.Native.Nat.{ℕ, ◌+◌, ◌-◌, ◌<◌, ◌≤◌}
use mathlib.Core.Path.{◌≡◌, ap, sym, ◌∙◌}
use mathlib.Core.Bool.{true, false}
use mathlib.Core.Logic.{◌⊎◌, inl, inr}
use mathlib.Core.List.{List}
use native.Mathlib.Omega.{arith}
use lib.ListN.{length}
use lib.Dec.{leb}
use borrow.Author.Tests.{leb-true, leb-false}
use Rattle.octets.proofs.Bools.{which}
use Rattle.windows.specs.declared.Shown.{Shown}
use Rattle.windows.specs.Windows.{Window, as_window, window_of}
use Rattle.console.specs.Console.{Short}
use Rattle.std.specs.Prelude.{min}
use Rattle.std.proofs.Math.Nat.{min-eq_left, min_comm}
use Rattle.windows.proofs.Covers.{gets-on, window-octets, window-range, window-lines}
use Rattle.listing.specs.Listing.{lines_of}
use Rattle.listing.proofs.Bounds.{few-lines}

-- the end of every range that is asked for
abbrev pub END : ℕ
END = 18446744073709551615

-- any lines that have room in a buffer
module _ (ls : List (List ℕ)) (short : Short ls) (end first : ℕ) (before : first ≤ end) (inside : first ≤ length ls) (d d' : List ℕ)
    (size : length d ≡ 65536) (r : Shown) (is : as_window r d' ≡ window_of ls first end d) where
  -- a window lies in its buffer, in the lines that are asked for and in all lines
  pub within-buffer : r.octets ≤ 65536
  within-buffer = omega (arith, window-octets ls first end d d' r is)

  pub behind-before : first + r.lines ≤ end
  behind-before = omega (arith, window-range ls first end d d' r is)

  pub behind-inside : first + r.lines ≤ length ls
  behind-inside = omega (arith, window-lines ls first end d d' r is)

  pub all_shown_lem : r.lines ≡ 0 → first ≡ min end (length ls)
  all_shown_lem z = go (which (leb end first)) (which (leb (length ls) first)) where
    go : (leb end first ≡ true) ⊎ (leb end first ≡ false) → (leb (length ls) first ≡ true) ⊎ (leb (length ls) first ≡ false)
        → first ≡ min end (length ls)
    go (inl e) f = let a : end ≤ first = leb-true _ _ e in let b : first ≡ end = omega arith in
        b ∙ sym (min-eq_left (omega arith))
    go (inr e) (inl f) = let a : length ls ≤ first = leb-true _ _ f in let b : first ≡ length ls = omega arith in
        b ∙ sym (min_comm end (length ls) ∙ min-eq_left (omega arith))
    go (inr e) (inr f) =
        let a : first < end = leb-false _ _ e in
        let b : first < length ls = leb-false _ _ f in
        absurd (omega (arith, gets-on ls first end d a b (omega (arith, short first)), ap (λ (w : Window). w.lines) is))

-- a listing is no longer than that
pub listed-few : (s : List ℕ) → length s < END - 1 → length (lines_of s) < END
listed-few s h = omega (arith, few-lines s)
