use Rattle.envelope_lines.proofs.Chains.{mechanisms}
use borrow.Author.Rules.{rules}
use Rattle.envelope_lines.proofs.mechanism_line.Goals as goal

pub returns-then-is_negoex : goal.returns-then-is_negoex
returns-then-is_negoex c = search (rules, mechanisms)

pub returns : goal.returns
returns c = search (rules, mechanisms)
