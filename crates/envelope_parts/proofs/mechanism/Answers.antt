use Rattle.std.proofs.Common.{rules}
use Rattle.envelope_parts.proofs.Clamped.{mechanisms}
use Rattle.envelope_parts.proofs.mechanism.Goals as goal

pub returns-then-identifiers-gt65535 : goal.returns-then-identifiers-gt65535
returns-then-identifiers-gt65535 c = search (rules, mechanisms)

pub returns : goal.returns
returns c = search (rules, mechanisms)
