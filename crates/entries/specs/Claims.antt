-- What is proved of the entries.
--
-- Glossary
--   tiled_to at fs  where fields end that follow one another without a gap from `at` on, and none where they don't
--   pads_in fs      the pads among fields
--   FieldsTile      the fields of a header follow one another from its first octet to its last
--   PadsListed      the pads among them are those of the layout
--   FieldsRead      each field stands where the layout reads it: a head and a content, read at the places of the fields, are those of the message
--   EntriesFew      an accepted token has no more entries than octets
use Rattle.std.specs.Prelude.{ℕ, ◌+◌, ◌≤◌, ◌≡◌, cond, List, [], ◌∷◌, length, eqb}
use Rattle.std.proofs.Math.Option.{Option, none, some}
use Rattle.octets.specs.Octets.{le, octets}
use Rattle.vector.specs.Vector.{part}
use Rattle.message.specs.Layout.{Shape, nego, exchange, verify, alert, header_of, Pad, pads_of, Head, head_of, octet_vector, vector_at, elements_of, Nego, Exchange, Verify, Alert, content_of}
use Rattle.token.specs.Token.{Placed, Accepted, token_of}
use Rattle.entries.specs.Names.{PAD}
use Rattle.entries.specs.Entries.{Field, fields_of, field_at, entries_of}

abbrev pub tiled_to : ℕ → List Field → Option ℕ
tiled_to at [] = some at
tiled_to at (f ∷ fs) = cond (eqb f.at at) (tiled_to (at + f.size) fs) none

abbrev pub pads_in : List Field → List Pad
pads_in [] = []
pads_in (f ∷ fs) = cond (eqb f.what PAD) (record { at = f.at; size = f.size } ∷ pads_in fs) (pads_in fs)

abbrev pub FieldsTile : Type 0
FieldsTile = (shape : Shape) → tiled_to 0 (fields_of shape) ≡ some (header_of shape)

abbrev pub PadsListed : Type 0
PadsListed = (shape : Shape) → pads_in (fields_of shape) ≡ pads_of shape

abbrev pub FieldsRead : Type 0
FieldsRead =
    (m : List ℕ)
    → ((shape : Shape) → ◌≡◌ {A = Head} (record {
      signature = le (field_at shape 0).size m (field_at shape 0).at;
      kind = le (field_at shape 1).size m (field_at shape 1).at;
      sequence = le (field_at shape 2).size m (field_at shape 2).at;
      header = le (field_at shape 3).size m (field_at shape 3).at;
      length = le (field_at shape 4).size m (field_at shape 4).at;
      conversation = octets (field_at shape 5).size m (field_at shape 5).at;
    }) (head_of m))
    × ((Nego (octets (field_at nego 6).size m (field_at nego 6).at) (le (field_at nego 7).size m (field_at nego 7).at)
    (vector_at 16 m (field_at nego 8).at) (vector_at 12 m (field_at nego 10).at) (elements_of (part m (vector_at 12 m (field_at nego 10).at)))
    ≡ content_of nego m)
    × ((Exchange (octets (field_at exchange 6).size m (field_at exchange 6).at) (octet_vector m (field_at exchange 7).at) ≡ content_of exchange m)
    × ((Verify (octets (field_at verify 6).size m (field_at verify 6).at) (le (field_at verify 7).size m (field_at verify 7).at)
    (le (field_at verify 8).size m (field_at verify 8).at) (le (field_at verify 9).size m (field_at verify 9).at)
    (octet_vector m (field_at verify 10).at) ≡ content_of verify m)
    × (Alert (octets (field_at alert 6).size m (field_at alert 6).at) (le (field_at alert 7).size m (field_at alert 7).at)
    (vector_at 12 m (field_at alert 8).at) (elements_of (part m (vector_at 12 m (field_at alert 8).at))) ≡ content_of alert m))))

abbrev pub EntriesFew : Type 0
EntriesFew = (s : List ℕ) (ms : List Placed) → token_of s ≡ Accepted ms → length (entries_of ms) ≤ length s
