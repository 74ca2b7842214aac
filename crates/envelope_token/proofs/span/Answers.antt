use Rattle.envelope_token.proofs.Spans.{span-there, token-there}
use Rattle.envelope_token.proofs.span.Goals as goal

pub returns : goal.returns
returns c = span-there _ _ _ c.requires _ (token-there _ _ _ _ c.ok_or.ensures.value c.in_ok-part.was)
