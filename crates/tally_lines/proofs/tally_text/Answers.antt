use Rattle.tally_lines.proofs.Chained.{tallies}
use Rattle.tally_lines.proofs.tally_text.Goals as goal

pub returns-then-t-gt64 : goal.returns-then-t-gt64
returns-then-t-gt64 c = search tallies

pub returns : goal.returns
returns c = search tallies
