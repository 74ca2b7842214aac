use Rattle.std.proofs.Common.{rules}
use Rattle.tally_lines.proofs.Chained.{loops}
use Rattle.tally_lines.proofs.refused_lines.Goals as goal

pub loop-k-preserved : goal.loop-k-preserved
loop-k-preserved c = search (rules, loops)

pub returns : goal.returns
returns c = search loops
