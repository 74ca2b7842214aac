-- What is proved of an envelope's text.
--
-- Glossary
--   TextFits  the text of every envelope, or of its refusal, has at most 262,144 octets: `unwrap` has room for it, so that no piece is left out
use Rattle.std.specs.Prelude.{ℕ, ◌≤◌, List, length}
use Rattle.put.specs.Put.{joined}
use Rattle.envelope_lines.specs.Lines.{envelope_text}

abbrev pub TextFits : Type 0
TextFits = (s : List ℕ) → length (joined (envelope_text s)) ≤ 262144
