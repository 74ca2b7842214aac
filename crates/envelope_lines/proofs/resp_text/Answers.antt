use Rattle.envelope_lines.proofs.Chains.{resp-text}
use Rattle.envelope_lines.proofs.resp_text.Goals as goal

pub returns : goal.returns
returns c =
    resp-text c.args.s.now c.args.r _ _ _ _ _ c.head_line-head_end.ensures c.state_line-state_end.ensures
    c.named_line-mechanism_end.ensures c.last_lines.ensures
