use mathlib.Core.Path.{refl}
use Rattle.put.proofs.Laws.{wrote, step, done}
use Rattle.encode.proofs.put_vector.Goals as goal

pub returns : goal.returns
returns c =
    wrote 8 (step c.put_u32-count_at.ensures (step c.put_u16-pad_at.ensures (step c.put_u16.ensures done))) refl c.requires
