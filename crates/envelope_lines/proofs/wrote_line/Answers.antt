use Rattle.envelope_lines.proofs.Chains.{wrote-line}
use borrow.Author.Rules.{rules}
use Rattle.envelope_lines.proofs.wrote_line.Goals as goal

pub returns : goal.returns
returns c = search (rules, wrote-line)
