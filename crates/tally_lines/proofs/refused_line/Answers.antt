use Rattle.tally_lines.proofs.Chained.{refusals}
use Rattle.tally_lines.proofs.refused_line.Goals as goal

pub returns-then-number-eq0 : goal.returns-then-number-eq0
returns-then-number-eq0 c = search refusals

pub returns-then-count-eq0 : goal.returns-then-count-eq0
returns-then-count-eq0 c = search refusals

pub returns : goal.returns
returns c = search refusals
