-- The fields of a header by its layout's table, in the words of `header_entry`.
-- Assumes nothing.
use Prim.Native.Nat.{ℕ, ◌<◌}
use mathlib.Core.Path.{◌≡◌, sym, ◌∙◌}
use mathlib.Core.List.{List}
use lib.ListN.{length}
use Rattle.message.specs.Layout.{Shape, shape_of}
use Rattle.entries.specs.declared.Entry.{Entry}
use Rattle.entries.specs.Entries.{fields_of, header_entry}
use Rattle.entries.specs.Lookup.{flat, table_entry, Row, Holds}
use Rattle.entries.proofs.Fields.{row_in, row-entry}
use Rattle.entries.proofs.Bounds.{holds-header}

module _ (p : ℕ) (m : List ℕ) (kind : ℕ) (on : Holds p m kind) (k : ℕ) (few : k < length (fields_of (shape_of kind))) (s : Shape) (s-is : s ≡ shape_of kind)
  where
    pub row_here : Row (flat (fields_of s)) m k
    row_here = row_in s m k (rw (sym s-is) at (holds-header p m kind on)) (rw (sym s-is) at few)

    pub header_here : (i : ℕ) (x : Entry) → x ≡ table_entry p i m (flat (fields_of s)) k → x ≡ header_entry p i m (shape_of kind) k
    header_here i x e = rw (sym s-is) (e ∙ row-entry p i m s k (rw (sym s-is) at few))
