use Rattle.std.proofs.Common.{[]}
use Rattle.der.specs.Holder.{part}
use Rattle.der.proofs.Framing.{verdict-wrong, fine-indefinite, fine-right, verdict-long, verdict-found}
use Rattle.der.proofs.judged.Goals.{else-not-right-via-then-not-right+else-ne, else-not-right-via-else-not-right}
use Rattle.der.proofs.judged.Goals as goal

pub returns-then-ne : goal.returns-then-ne
unfolding part
returns-then-ne c = verdict-wrong _ _ _ _ c.ne.ensures c.as_slice.ensures c.if-not-right.true c.if-ne.true _ _

pub returns-then-not-shortest : goal.returns-then-not-shortest
unfolding part
returns-then-not-shortest c =
    elim c.else-not-right.branch [
      | else-not-right-via-then-not-right+else-ne w ↦
          verdict-long _ _ _ _ (fine-indefinite _ _ _ _ w.ne.ensures w.as_slice.ensures w.if-ne.false) _ c.shortest.ensures c.if-not-shortest.true
      | else-not-right-via-else-not-right w ↦
          verdict-long _ _ _ _ (fine-right _ _ [] w.if-not-right.false) _ c.shortest.ensures c.if-not-shortest.true
    ]

pub returns : goal.returns
unfolding part
returns c =
    elim c.else-not-right.branch [
      | else-not-right-via-then-not-right+else-ne w ↦
          verdict-found _ _ _ _ (fine-indefinite _ _ _ _ w.ne.ensures w.as_slice.ensures w.if-ne.false) _ c.shortest.ensures c.if-not-shortest.false
      | else-not-right-via-else-not-right w ↦
          verdict-found _ _ _ _ (fine-right _ _ [] w.if-not-right.false) _ c.shortest.ensures c.if-not-shortest.false
    ]
