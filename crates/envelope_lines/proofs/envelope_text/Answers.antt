use Rattle.envelope_lines.proofs.Chains.{text-refused}
use Rattle.envelope_lines.proofs.envelope_text.Goals as goal

pub returns-in-Err : goal.returns-in-Err
returns-in-Err c = text-refused _ _ c.read_envelope.ensures _ _ _ c.in-Err.is _ c.number.ensures c.refused_line.ensures
