use Rattle.replay_lines.proofs.Chains.{choices}
use Rattle.replay_lines.proofs.choice_line.Goals as goal

pub returns-in_default : goal.returns-in_default
returns-in_default c = search choices

pub returns : goal.returns
returns c = search choices
