use Rattle.std.proofs.Common.{rules}
use Rattle.replies.proofs.Answers.{takes}
use Rattle.replies.proofs.accepted.Goals as goal

pub returns : goal.returns
returns c = takes _ _ _ _ (λ f e h. search (rules, h)) c.read_token.ensures c.map_err.ensures.cases
