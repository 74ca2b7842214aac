use Rattle.envelope_lines.proofs.Chains.{last-lines}
use borrow.Author.Rules.{rules}
use Rattle.envelope_lines.proofs.last_lines.Goals as goal

pub returns : goal.returns
returns c = search (rules, last-lines)
