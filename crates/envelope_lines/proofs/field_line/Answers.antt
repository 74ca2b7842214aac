use Rattle.envelope_lines.proofs.Chains.{absent-is, there-is, octets-absent, octets-there}
use Rattle.envelope_lines.proofs.field_line.Goals as goal

pub returns-then-is_none : goal.returns-then-is_none
returns-then-is_none c = octets-absent _ _ _ (absent-is _ _ c.is_none.ensures c.if-is_none.true) _

pub returns : goal.returns
returns c = octets-there _ _ _ _ _ (there-is _ _ c.is_none.ensures c.if-is_none.false _ _ c.octets.ensures) _ c.octets_line.ensures
