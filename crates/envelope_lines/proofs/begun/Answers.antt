use Rattle.envelope_lines.proofs.Chains.{begun-is}
use Rattle.envelope_lines.proofs.begun.Goals as goal

pub returns : goal.returns
returns c = begun-is _ _ c.starts_with.ensures.value
