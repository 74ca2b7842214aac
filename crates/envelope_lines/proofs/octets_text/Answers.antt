use Rattle.std.proofs.Common.{rules}
use Rattle.envelope_lines.proofs.Chains.{octets}
use Rattle.envelope_lines.proofs.octets_text.Goals as goal

pub returns-then-is_empty : goal.returns-then-is_empty
returns-then-is_empty c = search (rules, octets)

pub returns : goal.returns
returns c = search (rules, octets)
