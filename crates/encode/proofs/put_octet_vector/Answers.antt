use mathlib.Core.Path.{refl}
use Rattle.put.proofs.Laws.{wrote, step, done}
use Rattle.encode.proofs.put_octet_vector.Goals as goal

pub returns : goal.returns
returns c =
    wrote 8 (step c.put_u32-size_at.ensures (step c.put_u32.ensures done)) refl c.requires
