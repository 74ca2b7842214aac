use Rattle.envelope_parts.proofs.Nths.{nth-no, nth_here, nth-more, nth-behind}
use Rattle.envelope_parts.proofs.identifier.Goals as goal

pub returns-in_default : goal.returns-in_default
returns-in_default c = nth-no _ _ c.args.k c.loop-i.i _ c.loop-i.invariant.held c.loop-i.invariant.same _ c.cut_at.ensures _ c.in_default.is

pub loop-i-preserved : goal.loop-i-preserved
loop-i-preserved c = record {
  held = nth-behind _ _ c.args.k c.loop-i.i _ c.loop-i.invariant.held c.loop-i.invariant.same _ c.cut_at.ensures _ _ c.in-Ok.is;
  same = nth-more _ _ c.args.k c.loop-i.i _ c.loop-i.invariant.held c.loop-i.invariant.same _ c.cut_at.ensures _ _ c.in-Ok.is c.loop-i-test.true;
}

pub returns-in_default-cut_at : goal.returns-in_default-cut_at
returns-in_default-cut_at c = nth-no _ _ c.args.k c.loop-i.i _ c.loop-i.invariant.held c.loop-i.invariant.same _ c.cut_at-2.ensures _ c.in_default-cut_at.is

pub returns : goal.returns
returns c = nth_here _ _ c.args.k c.loop-i.i _ c.loop-i.invariant.held c.loop-i.invariant.same _ c.cut_at-2.ensures _ _ c.in-Ok-cut_at.is c.loop-i-test.false
