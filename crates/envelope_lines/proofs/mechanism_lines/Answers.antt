use borrow.Author.Rules.{rules}
use mathlib.Core.Path.{refl}
use Rattle.envelope_lines.proofs.Chains.{turns}
use Rattle.envelope_lines.proofs.mechanism_lines.Goals as goal

pub loop-k-init : goal.loop-k-init
loop-k-init c = (refl, refl)

pub loop-k-preserved : goal.loop-k-preserved
loop-k-preserved c = (search rules, search (rules, turns))

pub returns : goal.returns
returns c = search (rules, turns)
