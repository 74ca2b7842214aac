use Rattle.reports.specs.Reports.{wrote_text}
use Rattle.reports.proofs.Chains.{field-then}
use Rattle.reports.proofs.wrote.Goals as goal

pub returns : goal.returns
unfolding wrote_text
returns c = search field-then
