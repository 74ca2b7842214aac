use Rattle.envelope_lines.proofs.Chains.{octets-line}
use borrow.Author.Rules.{rules}
use Rattle.envelope_lines.proofs.octets_line.Goals as goal

pub returns : goal.returns
returns c = search (rules, octets-line)
