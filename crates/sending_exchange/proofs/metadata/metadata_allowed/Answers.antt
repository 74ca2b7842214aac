use Prim.Native.Nat.{◌≤◌}
use native.Mathlib.Omega.{arith}
use Rattle.sending_exchange.proofs.Tellings.{find-few, told-initiator}
use Rattle.sending_exchange.proofs.metadata.metadata_allowed.Goals as goal

pub overflow_cast-place : goal.overflow_cast-place
overflow_cast-place c =
    let h : c.find_own-place.result ≤ 16 = find-few c.args.r c.args.id _ c.find_own-place.ensures c.requires.few in
    omega arith

pub returns-else-r : goal.returns-else-r
returns-else-r c = told-initiator c.args.r c.args.id _ c.find_own-place.ensures _ c.bit_of.ensures c.if-bit_of.false c.if-r.false
