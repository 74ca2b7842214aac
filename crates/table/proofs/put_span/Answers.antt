use mathlib.Core.Path.{refl}
use Rattle.put.proofs.Laws.{wrote, step, done, as_number}
use Rattle.table.specs.Table.{numbers}
use Rattle.table.proofs.put_span.Goals as goal

pub returns : goal.returns
unfolding numbers
returns c =
    wrote 8
    (step (as_number 4 c.vector_place-from.ensures c.put_u32-length_at.ensures)
    (step (as_number 4 c.vector_length.ensures c.put_u32.ensures) done))
    refl
    c.requires.0
