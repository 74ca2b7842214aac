use Rattle.envelope_lines.proofs.Chains.{init-text}
use Rattle.envelope_lines.proofs.init_text.Goals as goal

pub returns : goal.returns
returns c =
    init-text c.args.s.now c.args.i _ _ _ _ _ c.head_line-head_end.ensures c.mechanism_lines-mechanisms_end.ensures
    c.field_line-flags_end.ensures c.last_lines.ensures
