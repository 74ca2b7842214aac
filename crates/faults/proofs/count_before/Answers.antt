use Rattle.std.proofs.Common.{◌∙◌}
use Rattle.faults.proofs.Tokens.{before_count}
use Rattle.faults.proofs.count_before.Goals as goal

pub returns : goal.returns
returns c = c.unwrap_or.ensures ∙ before_count _ c.read_token.result c.read_token.ensures
