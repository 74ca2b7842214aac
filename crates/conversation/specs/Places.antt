-- A place in the turn, as the functions of src/ answer it.
--
-- Glossary
--   allowed p  the place p, or none for 0, which stands where a class is not allowed
use Rattle.std.specs.Prelude.{ℕ, cond, eqb, Option, None, Some}

abbrev pub allowed : ℕ → Option ℕ
allowed p = cond (eqb p 0) None (Some p)
