use Rattle.reports.proofs.Chains.{two_fields}
use Rattle.reports.specs.Reports.{used_line}
use Rattle.reports.proofs.used.Goals as goal

pub returns : goal.returns
unfolding used_line
returns c = search two_fields
