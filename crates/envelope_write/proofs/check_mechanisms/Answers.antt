use Rattle.std.proofs.Common.{rules}
use Rattle.envelope_write.proofs.Sums.{refusals}
use Rattle.envelope_write.proofs.check_mechanisms.Goals as goal

pub returns-then-not-sums_to : goal.returns-then-not-sums_to
returns-then-not-sums_to c = search (rules, refusals)

pub returns-then-sizes-eq0 : goal.returns-then-sizes-eq0
returns-then-sizes-eq0 c = search (rules, refusals)

pub returns-then-sizes-gt16 : goal.returns-then-sizes-gt16
returns-then-sizes-gt16 c = search (rules, refusals)

pub returns : goal.returns
returns c = search (rules, refusals)
