use Rattle.envelope_lines.proofs.Chains.{head-line}
use borrow.Author.Rules.{rules}
use Rattle.envelope_lines.proofs.head_line.Goals as goal

pub returns : goal.returns
returns c = search (rules, head-line)
