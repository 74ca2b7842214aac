use Rattle.sample.proofs.listed.Goals as goal

pub returns : goal.returns
returns c = cc
