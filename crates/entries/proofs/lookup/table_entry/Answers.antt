use Rattle.entries.proofs.Pieces.{fields-are}
use native.Mathlib.Omega.{arith}
use Prim.Native.Nat.{◌*◌}
use Rattle.entries.proofs.lookup.table_entry.Goals as goal

pub overflow_cast-what : goal.overflow_cast-what
overflow_cast-what c = omega (arith, c.shared_slice_known-3-1.given (3 * c.args.k))

pub returns : goal.returns
returns c = search fields-are
