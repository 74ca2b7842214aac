-- Which octets of a token are covered, as a mask beside it. Document 02, C-24: "Octets that nothing points at".
--
-- Glossary
--   masked_by r s d  the mask d by the reading r of the token s: where it is accepted and the mask is as long, zero at each place that nothing covers
--   masking_of s d   what masking comes to: document 01's values of the reading, and the mask afterwards
--   coverage_of s    of a token an octet for each of its own: 1 where it is covered, 0 where nothing covers it
use Rattle.std.specs.Prelude.{ℕ, cond, List, length, replicate, eqb}
use Rattle.token.specs.Token.{Reading, Accepted, Refused, token_of, outcome_of}
use Rattle.blanking.specs.Covered.{covered_in, covered}
use Rattle.blanking.specs.Blanked.{kept, Blanking}

abbrev pub masked_by : Reading → List ℕ → List ℕ → List ℕ
masked_by (Accepted ms) s d = cond (eqb (length d) (length s)) (kept (covered_in ms) d 0) d
masked_by (Refused n place) s d = d

abbrev pub masking_of : List ℕ → List ℕ → Blanking
masking_of s d = record { outcome = outcome_of (token_of s); octets = masked_by (token_of s) s d }

unfoldable pub coverage_of : List ℕ → List ℕ
coverage_of s = kept (covered s) (replicate (length s) 1) 0
