use Rattle.std.proofs.Common.{rules}
use Rattle.der.proofs.Framing.{tag-none, tag-other, tags}
use Rattle.der.proofs.frame_at.Goals.{then-at-holder-via-then-at-holder, then-at-holder-via-else-at-holder+then-s-at}
use Rattle.der.proofs.frame_at.Goals as goal

pub returns-then-at-holder : goal.returns-then-at-holder
returns-then-at-holder c =
    elim c.then-at-holder.branch [
      | then-at-holder-via-then-at-holder w ↦ tag-none _ _ _ c.requires w.if-at-holder.true
      | then-at-holder-via-else-at-holder+then-s-at w ↦ tag-other _ _ _ c.requires w.if-at-holder.false w.if-s-at.true
    ]

pub returns : goal.returns
returns c = search (rules, tags)
