use Rattle.reports.proofs.Chains.{choice-then}
use Rattle.reports.specs.Reports.{choice_text}
use Rattle.reports.proofs.choice.Goals as goal

pub returns : goal.returns
unfolding choice_text
returns c = search choice-then
