use Rattle.replay_lines.proofs.side.Goals as goal

pub returns-in-Initiator : goal.returns-in-Initiator
returns-in-Initiator c = rw c.in-Initiator.is c.append.ensures
