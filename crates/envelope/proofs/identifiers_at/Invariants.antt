use Rattle.std.proofs.Common.{◌≡◌}
use Rattle.der.specs.Holder.{HolderAt, octets_at}
use Rattle.envelope.proofs.Lists.{left_of, going}
use Rattle.envelope.proofs.identifiers_at.Given as goal

abbrev pub invariant-loop-count : goal.invariant-loop-count
invariant-loop-count l = record {
  held : HolderAt l.s l.rest;
  going : left_of 16 (octets_at l.s l.fn.list) ≡ going l.count (octets_at l.s l.rest);
}
