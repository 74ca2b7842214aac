-- What the programs share.
--
-- Glossary
--   Holds r d  the answer r counts octets at the front of d, or there is no file
--   Short ls   each of the lines has fewer than 128 octets
use Rattle.std.specs.Prelude.{List, ℕ, Option, IfSome, ◌<◌, [], length, get_or}
use Rattle.io.specs.Counts.{IsPrefixLen}

abbrev pub Holds : Option ℕ → List ℕ → Type 0
Holds r d = IfSome r (λ n. IsPrefixLen n d)

abbrev pub Short : List (List ℕ) → Type 0
Short ls = (k : ℕ) → length (get_or ls k []) < 128
