use Rattle.replay_lines.proofs.Chains.{turns}
use Rattle.replay_lines.proofs.turn_line.Goals as goal

pub returns-then-acceptor : goal.returns-then-acceptor
returns-then-acceptor c = search turns

pub returns : goal.returns
returns c = search turns
