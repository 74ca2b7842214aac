use mathlib.Core.Path.{refl}
use Rattle.put.proofs.Laws.{wrote, step, done}
use Rattle.table.specs.Table.{numbers}
use Rattle.entries.specs.Entries.{entry_octets}
use Rattle.entries.proofs.put_entry.Goals as goal

pub returns : goal.returns
unfolding entry_octets numbers
returns c =
    wrote 24
    (step c.put_u32-message_at.ensures
    (step c.put_u32-number_at.ensures
    (step c.put_u32-value_at.ensures
    (step c.put_u32-place_at.ensures
    (step c.put_u32-length_at.ensures
    (step c.put_u32.ensures done))))))
    refl
    c.requires
