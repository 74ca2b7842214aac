-- The lengths of a record's arrays, as its type gives them, and of an own id.
-- Assumes nothing.
use Prim.Native.Nat.{ℕ, ◌*◌, ◌<◌}
use mathlib.Core.Path.{◌≡◌}
use mathlib.Core.List.{List}
use native.Mathlib.Omega.{arith}
use lib.ListN.{length, length-take, length-drop}
use mir.Val.{Val}
use denote.Laws.{Is}
use denote.Struct.Declared.{row}
use Rattle.octets.specs.Octets.{octets}
use Rattle.conversation.specs.contracts.Record.{the_type}
use Rattle.conversation.specs.declared.Record.{Record}
use Rattle.conversation.specs.Claims.{Arrays}

pub sized : (r : Record) (vs : List Val) → Is (row the_type) r vs → Arrays r
sized r vs g = record {
  list = g.1.1.1.1.1.0.1.0.1;
  conversation = g.1.1.1.1.1.1.1.0.1.0.1;
}

pub own-sized : (r : Record) → Arrays r → (k : ℕ) → k < 16 → length (octets 16 r.list (16 * k)) ≡ 16
own-sized r z k h = simp (length-take, length-drop) (omega (arith, z.list))
