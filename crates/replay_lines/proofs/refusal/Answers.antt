use Rattle.replay_lines.proofs.Chains.{refusal_is}
use Rattle.replay_lines.proofs.refusal.Goals as goal

pub returns : goal.returns
returns c = search refusal_is
