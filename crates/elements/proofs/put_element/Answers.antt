use mathlib.Core.Path.{refl}
use Rattle.put.proofs.Laws.{wrote, step, done, as_number}
use Rattle.elements.proofs.put_element.Goals as goal

pub returns : goal.returns
returns c =
    wrote 12
    (step c.put_u32-offset_at.ensures
    (step (as_number 4 c.offset_of-stored.ensures c.put_u32-size_at.ensures) (step c.put_u32.ensures done))) refl
    c.requires
