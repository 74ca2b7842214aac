use Rattle.std.proofs.Common.{rules}
use Rattle.faults.proofs.Spots.{critical, critical-end}
use Rattle.faults.proofs.critical_element.Goals as goal

pub loop-k-init : goal.loop-k-init
loop-k-init c = search critical

pub returns-then-is_negative : goal.returns-then-is_negative
returns-then-is_negative c = search critical

pub loop-k-preserved : goal.loop-k-preserved
loop-k-preserved c = search critical

pub returns : goal.returns
returns c = search (rules, critical-end)
