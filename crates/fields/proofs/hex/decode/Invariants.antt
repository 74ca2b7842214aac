use Prim.Native.Nat.{◌*◌, ◌/◌, ◌≤◌}
use mathlib.Core.Path.{◌≡◌}
use lib.ListN.{length, take, drop}
use Rattle.fields.specs.Fields.{behind_all, pairs_of}
use Rattle.fields.proofs.hex.decode.Given as goal

abbrev pub invariant-loop-i : goal.invariant-loop-i
invariant-loop-i l = record {
  half : l.count ≡ length l.s / 2;
  room : l.count ≤ length l.d;
  sized : length l.d ≡ length l.initial.d;
  behind : drop l.count l.d ≡ drop l.count l.initial.d;
  told : pairs_of l.s ≡ behind_all (take l.i l.d) (pairs_of (drop (2 * l.i) l.s));
}
