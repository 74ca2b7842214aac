use mathlib.Core.Path.{◌≡◌}
use lib.ListN.{length, take, drop}
use Rattle.fields.specs.Fields.{behind_all, octets_at}
use Rattle.fields.proofs.hex.octets_at.Given as goal

abbrev pub invariant-loop-i : goal.invariant-loop-i
invariant-loop-i l = record {
  room : length l.octets ≡ 16;
  told : octets_at l.s l.places ≡ behind_all (take l.i l.octets) (octets_at l.s (drop l.i l.places));
}
