use Rattle.std.proofs.Common.{rules}
use Rattle.token.proofs.Walks.{has-is}
use Rattle.token.proofs.has_message.Goals as goal

pub returns : goal.returns
returns c = has-is _ _ _ c.read_token.ensures _ (λ n h. search rules) c.is_ok_and.ensures
