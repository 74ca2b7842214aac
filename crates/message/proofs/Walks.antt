-- The message at the front of octets, in the words of `first`.
-- Assumes nothing.
use Prim.Native.Nat.{ℕ, ◌<◌, ◌≤◌}
use mathlib.Core.Path.{◌≡◌, sym}
use mathlib.Core.List.{List, []}
use lib.ListN.{length, take}
use lib.Seq.{length-take-le}
use borrow.Author.Tests.{le-leb, lt-leb}
use Rattle.octets.specs.Octets.{le}
use Rattle.message.specs.Layout.{head_of, size}
use Rattle.message.specs.Show.{first_of}

-- the length is the one that the header says
pub length-read : (s : List ℕ) (n : ℕ) → n ≡ le 4 s 20 → n ≡ size s
unfolding head_of
length-read s n e = e

module _ (s : List ℕ) where
  pub first_short : length s < 40 → [] ≡ first_of s
  unfolding first_of
  first_short h = simp (lt-leb _ _ h)

  module _ (sized : 40 ≤ length s) (n : ℕ) (n-is : n ≡ size s) where
    pub first-cut : length s < n → [] ≡ first_of s
    unfolding first_of
    first-cut h = simp (le-leb _ _ sized, ← n-is, lt-leb _ _ h)

    pub first-size : n ≤ length s → n ≡ length (take n s)
    first-size h = sym (length-take-le n s h)

    pub first-whole : n ≤ length s → take n s ≡ first_of s
    unfolding first_of
    first-whole h = simp (le-leb _ _ sized, ← n-is, le-leb _ _ h)

pub ruleset firsts = (length-read, first_short, first-cut, first-size, first-whole)
