-- What the functions of src/ ask and leave, below the entry points.
--
-- Glossary
--   flat fs         fields as the tables of src/ have them, three numbers each
--   table_entry     the entry of the field in row k of such a table
--   Row t m k       row k is one of the table t, and its field lies in m and has two octets at the least
--   Holds p m kind  m is a message of a kind at the place p that ends within 65,535 octets, and its vectors lie inside it
--   Counted c m     c has the kind of the message m, and how many fields and vectors it has
--   no_entry        what stands beyond the last entry
--   count_in m      how many entries m has
--   Filled d at es d' next   as many of the entries es as fit were put into d from `at` on: d' is the list afterwards, `next` the place behind them
use Rattle.std.specs.Prelude.{ℕ, ◌+◌, ◌*◌, ◌-◌, ◌/◌, ◌≤◌, ◌≡◌, List, [], ◌∷◌, length, get_or, take}
use Rattle.message.specs.Layout.{head_of, shape_of}
use Rattle.coverage.specs.Coverage.{vectors_in}
use Rattle.table.specs.Table.{Held}
use Rattle.put.specs.Put.{Written}
use Rattle.entries.specs.declared.Entry.{Entry}
use Rattle.entries.specs.declared.lookup.Counts.{Counts}
use Rattle.entries.specs.Entries.{Field, fields_of, field_entry, ids_vector, array_vector, entry_octets}

abbrev pub flat : List Field → List ℕ
flat [] = []
flat (f ∷ fs) = f.what ∷ f.at ∷ f.size ∷ flat fs

unfoldable pub table_entry : ℕ → ℕ → List ℕ → List ℕ → ℕ → Entry
table_entry p i m t k = field_entry p i m (get_or t (3 * k) 0) 0 (get_or t (3 * k + 1) 0) (get_or t (3 * k + 2) 0)

pub record Row (t m : List ℕ) (k : ℕ) : Type 0 where
  pub inside : 3 * k + 3 ≤ length t
  pub lies : get_or t (3 * k + 1) 0 + get_or t (3 * k + 2) 0 ≤ length m
  pub some : 2 ≤ get_or t (3 * k + 2) 0

pub record Holds (p : ℕ) (m : List ℕ) (kind : ℕ) : Type 0 where
  pub held : Held p m
  pub is : kind ≡ (head_of m).kind

pub record Counted (c : Counts) (m : List ℕ) : Type 0 where
  pub kind : c.kind.0 ≡ (head_of m).kind
  pub fields : c.fields ≡ length (fields_of (shape_of c.kind.0))
  pub vectors : c.vectors ≡ length (vectors_in m)

abbrev pub no_entry : Entry
no_entry = record { what = 0; message = 0; number = 0; value = 0; place = 0; length = 0 }

unfoldable pub count_in : List ℕ → ℕ
count_in m =
    1 + length (fields_of (shape_of (head_of m).kind))
    + length (vectors_in m)
    + (ids_vector (shape_of (head_of m).kind) m).count
    + 2 * (array_vector (shape_of (head_of m).kind) m).count

unfoldable pub Filled : List ℕ → ℕ → List Entry → List ℕ → ℕ → Type 0
Filled d at es d' next =
    Written d at (24 * length (take ((length d - at) / 24) es)) (entry_octets (take ((length d - at) / 24) es)) d' next
