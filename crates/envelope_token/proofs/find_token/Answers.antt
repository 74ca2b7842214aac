use Rattle.envelope_token.proofs.Spans.{carried-refused, init-at, resp-at, carried-init, carried-resp}
use Rattle.envelope_token.proofs.find_token.Goals as goal

pub returns-in_err-i : goal.returns-in_err-i
returns-in_err-i c = carried-refused _ _ c.read_envelope.ensures _ c.in_err-i.was _ c.from_residual.ensures.1

pub span-requires : goal.span-requires
span-requires c = init-at _ _ c.read_envelope.ensures _ c.in_ok-i.was _ c.in-Init.is

pub span-requires-in-Resp : goal.span-requires-in-Resp
span-requires-in-Resp c = resp-at _ _ c.read_envelope.ensures _ c.in_ok-i.was _ c.in-Resp.is

pub returns-in-Init : goal.returns-in-Init
returns-in-Init c = carried-init _ _ c.read_envelope.ensures _ c.in_ok-i.was _ c.in-Init.is _ c.span.ensures

pub returns-in-Resp : goal.returns-in-Resp
returns-in-Resp c = carried-resp _ _ c.read_envelope.ensures _ c.in_ok-i.was _ c.in-Resp.is _ c.span-in-Resp.ensures
