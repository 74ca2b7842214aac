use borrow.Author.Rules.{rules}
use mathlib.Core.Path.{refl}
use Rattle.windows.proofs.Stepping.{stepped-going}
use Rattle.listing.proofs.Stepping.{lines}
use Rattle.listing.proofs.show_lines.Goals as goal

pub loop-index-init : goal.loop-index-init
loop-index-init c = (refl, search rules, refl)

pub returns-then-progress-eq0 : goal.returns-then-progress-eq0
returns-then-progress-eq0 c = search lines

pub loop-index-preserved : goal.loop-index-preserved
loop-index-preserved c = (search rules, search stepped-going, search lines)

pub returns : goal.returns
returns c = search lines
