use Rattle.envelope_lines.proofs.Chains.{absent-is, there-is, named-absent, named-there}
use Rattle.envelope_lines.proofs.named_line.Goals as goal

pub returns-then-is_none : goal.returns-then-is_none
returns-then-is_none c = named-absent _ _ _ (absent-is _ _ c.is_none.ensures c.if-is_none.true)

pub returns : goal.returns
returns c = named-there _ _ _ _ _ (there-is _ _ c.is_none.ensures c.if-is_none.false _ _ c.octets.ensures) c.mechanism_line.ensures
