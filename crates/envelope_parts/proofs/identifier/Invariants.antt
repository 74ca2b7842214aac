use Rattle.std.proofs.Common.{◌≡◌, ◌-◌}
use Rattle.der.specs.Holder.{HolderAt, octets_at}
use Rattle.envelope_parts.specs.Parts.{identifier_of}
use Rattle.envelope_parts.proofs.identifier.Given as goal

abbrev pub invariant-loop-i : goal.invariant-loop-i
invariant-loop-i l = record {
  held : HolderAt l.s l.rest;
  same : identifier_of l.fn.k (octets_at l.s l.fn.list) ≡ identifier_of (l.fn.k - l.i) (octets_at l.s l.rest);
}
