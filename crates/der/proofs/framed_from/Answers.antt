use Rattle.std.proofs.Common.{rules}
use Rattle.der.proofs.Framing.{framing}
use Rattle.der.proofs.framed_from.Goals as goal

pub returns-then-at-holder : goal.returns-then-at-holder
returns-then-at-holder c = search (rules, framing)

pub returns-then-holder-from : goal.returns-then-holder-from
returns-then-holder-from c = search (rules, framing)

pub returns-then-holder-end : goal.returns-then-holder-end
returns-then-holder-end c = search (rules, framing)

pub returns : goal.returns
returns c = search (rules, framing)
