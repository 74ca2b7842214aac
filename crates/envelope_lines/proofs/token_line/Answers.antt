use Rattle.std.proofs.Common.{rules}
use Rattle.envelope_lines.proofs.Chains.{token-absent, tokens}
use Rattle.envelope_lines.proofs.token_line.Goals as goal

pub returns-in_default : goal.returns-in_default
returns-in_default c = token-absent _ _ _ c.in_default.is _

pub returns : goal.returns
returns c = search (rules, tokens)
