use Rattle.envelope_lines.proofs.Chains.{refused-line}
use borrow.Author.Rules.{rules}
use Rattle.envelope_lines.proofs.refused_line.Goals as goal

pub returns : goal.returns
returns c = search (rules, refused-line)
