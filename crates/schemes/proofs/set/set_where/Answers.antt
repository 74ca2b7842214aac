use mathlib.Core.Path.{◌∙◌, sym}
use Rattle.schemes.proofs.Builds.{where-start, where-hit, where-miss}
use Rattle.schemes.proofs.set.set_where.Goals as goal
use Rattle.schemes.proofs.set.set_where.Goals.{then-holds, else-holds}

pub loop-k-init : goal.loop-k-init
loop-k-init g c = λ p acts. where-start p

pub loop-k-preserved : goal.loop-k-preserved
loop-k-preserved g c = λ p acts.
    let t = acts c.loop-k.k _ c.loop-k-test.true c.holds.ensures in
    elim c.if-holds.branch [
      | then-holds w ↦ w.set-is ∙ w.with_bit-set.ensures ∙ where-hit p _ _ (c.loop-k.invariant p acts) (sym w.if-holds.true ∙ t)
      | else-holds w ↦ w.set-is ∙ where-miss p _ _ (c.loop-k.invariant p acts) (sym w.if-holds.false ∙ t)
    ]
