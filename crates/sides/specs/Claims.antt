-- What is proved of files merged into turns. Document 02, C-19.
--
-- Glossary
--   numbers_of ms  the numbers of messages
--   Rising ns      no number stands behind a higher one, nor twice
--   InRow i a      the numbers of two files are 0 to the highest, each once, and rise in each file
--   InRowExactly   24 is given exactly where they are not
use Rattle.std.specs.Prelude.{ℕ, ◌<◌, ◌≤◌, ◌≡◌, true}
use mathlib.Core.List.{List, [], ◌∷◌, ◌++◌, map, Memᴰ}
use Rattle.message.specs.Layout.{head_of}
use Rattle.sides.specs.Merging.{in_row}

abbrev pub numbers_of : List (List ℕ) → List ℕ
numbers_of ms = map (λ m. (head_of m).sequence) ms

abbrev pub Rising : List ℕ → Type 0
Rising [] = Unit {0}
Rising (n ∷ ns) = ((k : ℕ) → Memᴰ k ns → n < k) × Rising ns

-- "24 where a number from 0 to the highest is missing, stands twice or stands behind a higher one in its file"
pub record InRow (i a : List ℕ) : Type 0 where
  pub none_missing : (k q : ℕ) → Memᴰ k (i ++ a) → q ≤ k → Memᴰ q (i ++ a)
  pub initiator_rises : Rising i
  pub acceptor_rises : Rising a
  pub once : (k : ℕ) → Memᴰ k i → Memᴰ k a → ⊥

abbrev pub InRowExactly : Type 0
InRowExactly =
    (i a : List (List ℕ))
    → (in_row i a ≡ true → InRow (numbers_of i) (numbers_of a)) × (InRow (numbers_of i) (numbers_of a) → in_row i a ≡ true)
