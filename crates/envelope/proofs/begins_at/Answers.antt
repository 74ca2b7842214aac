use Rattle.std.proofs.Common.{rules}
use Rattle.envelope.proofs.Sequences.{beginnings}
use Rattle.envelope.proofs.begins_at.Goals as goal

pub returns-then-at-holder : goal.returns-then-at-holder
returns-then-at-holder c = search (rules, beginnings)

pub returns-then-s-at-ge160 : goal.returns-then-s-at-ge160
returns-then-s-at-ge160 c = search (rules, beginnings)

pub returns-else-s-at-ge160 : goal.returns-else-s-at-ge160
returns-else-s-at-ge160 c = search (rules, beginnings)
