use Rattle.std.proofs.Common.{rules}
use Rattle.envelope.proofs.Optionals.{fronts}
use Rattle.envelope.proofs.starts_at.Goals as goal

pub returns-then-holder : goal.returns-then-holder
returns-then-holder c = search (rules, fronts)

pub returns-else-holder : goal.returns-else-holder
returns-else-holder c = search (rules, fronts)
