-- Octets put into a list of octets, and numbers as octets. Document 01, "Layouts".
--
-- Glossary
--   put d at v                d with the octets v from `at` on, and every other octet as it was
--   octets_of k x             the number x in k octets, least significant octet first
--   unsigned32 z              the 32-bit number that stands for the signed number z, in two's complement
--   joined fs                 the octets of the fields fs, one behind the other
--   Written d at n v d' next  the n octets v were put into d at `at`: d' is the list afterwards, `next` the place behind them
use Rattle.std.specs.Prelude.{◌≡◌, ℕ, zero, suc, ◌+◌, ◌-◌, ◌/◌, ◌%◌, List, [], ◌∷◌, ◌++◌, take, drop, length, ℤ, pos, negsuc}

unfoldable pub put : List ℕ → ℕ → List ℕ → List ℕ
put d at v = take at d ++ v ++ drop (at + length v) d

-- "All numbers are little endian."
abbrev pub octets_of : ℕ → ℕ → List ℕ
octets_of zero x = []
octets_of (suc k) x = x % 256 ∷ octets_of k (x / 256)

-- "Extension type, checksum type and error code are signed 32-bit numbers": zero or more the number itself, below zero the number and 2 ^ 32.
-- (negsuc n is the number minus 1 minus n.)
abbrev pub unsigned32 : ℤ → ℕ
unsigned32 (pos n) = n
unsigned32 (negsuc n) = 4294967295 - n

abbrev pub joined : List (List ℕ) → List ℕ
joined [] = []
joined (f ∷ fs) = f ++ joined fs

pub record Written (d : List ℕ) (at n : ℕ) (v d' : List ℕ) (next : ℕ) : Type 0 where
  pub size : length v ≡ n
  pub after : next ≡ at + n
  pub holds : d' ≡ put d at v
