use borrow.Author.Rules.{rules}
use mathlib.Core.Path.{refl}
use Rattle.text.proofs.Pieces.{pieces}
use Rattle.text.proofs.glyphs.Goals as goal

pub loop-k-init : goal.loop-k-init
loop-k-init c = (refl, search pieces)

pub loop-k-preserved : goal.loop-k-preserved
loop-k-preserved c = (search rules, search pieces)
