use Rattle.reports.proofs.Chains.{two_fields}
use Rattle.reports.proofs.numbers.Goals as goal

pub returns : goal.returns
returns c = search two_fields
