-- What the functions of src/ ask of a message, and what they leave in the lent array.
--
-- Glossary
--   Fit h m          m, of the layout h, has room for its header, and its vectors keep their rule: as each message that passed its checks
--   shape_in m       the layout of the message m; lines_in h m: the lines of the content of m, of the layout h
--   LineIs r d d' l  the line l was put at the front of d: d' is the list afterwards, l stands in its first r octets, and those behind it are as they were
use Rattle.std.specs.Prelude.{ℕ, ◌≤◌, ◌≡◌, true, List, length, take}
use Rattle.io.specs.Counts.{IsPrefixLen}
use Rattle.message.specs.Layout.{Shape, head_of, shape_of, header_of, content_of, vectors_of}
use Rattle.message.specs.Check.{all_keep_rule}
use Rattle.put.specs.Put.{put, joined}
use Rattle.lines.specs.Lines.{content_lines}

pub record Fit (shape : Shape) (m : List ℕ) : Type 0 where
  pub room : header_of shape ≤ length m
  pub rule : all_keep_rule (header_of shape) (length m) (vectors_of (content_of shape m)) ≡ true

abbrev pub shape_in : List ℕ → Shape
shape_in m = shape_of (head_of m).kind

abbrev pub lines_in : Shape → List ℕ → List (List (List ℕ))
lines_in shape m = content_lines m (content_of shape m)

pub record LineIs (r : ℕ) (d d' : List ℕ) (l : List (List ℕ)) : Type 0 where
  pub counts : IsPrefixLen r d'
  pub is : take r d' ≡ joined l
  pub holds : d' ≡ put d 0 (joined l)
