use mathlib.Core.Path.{refl}
use Rattle.put.proofs.Laws.{wrote, step, done, as_number}
use Rattle.message.specs.Layout.{head_of}
use Rattle.table.specs.Table.{numbers}
use Rattle.table.proofs.put_fields.Goals as goal

pub returns : goal.returns
unfolding numbers head_of
returns c =
    wrote 24
    (step c.put_u32-type_at.ensures
    (step (as_number 4 c.le_u32.ensures c.put_u32-sequence_at.ensures)
    (step (as_number 4 c.le_u32-2.ensures c.put_u32-header_at.ensures)
    (step (as_number 4 c.le_u32-3.ensures c.put_u32-length_at.ensures)
    (step (as_number 4 c.le_u32-4.ensures c.put_u32-vectors_at.ensures)
    (step c.put_u32.ensures done))))))
    refl
    c.requires.0
