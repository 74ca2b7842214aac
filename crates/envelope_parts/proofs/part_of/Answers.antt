use Rattle.std.proofs.Common.{rules}
use Rattle.envelope_parts.proofs.Clamped.{parts}
use Rattle.envelope_parts.proofs.part_of.Goals as goal

pub returns-then-end-part : goal.returns-then-end-part
returns-then-end-part c = search (rules, parts)

pub returns : goal.returns
returns c = search (rules, parts)
