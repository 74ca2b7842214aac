use Rattle.std.proofs.Common.{rules}
use Rattle.envelope.proofs.Lists.{counting, count-start, count-end, count-many, count-no, count-behind, count-more}
use Rattle.envelope.proofs.identifiers_at.Goals as goal

pub returns-then-list : goal.returns-then-list
returns-then-list c = search (rules, counting)

pub loop-count-init : goal.loop-count-init
loop-count-init c = record { held = c.requires; going = count-start _ _ c.requires c.if-list.false }

pub returns-then-rest : goal.returns-then-rest
returns-then-rest c =
    count-end _ _ c.requires c.if-list.false _ _ c.loop-count.invariant.held c.loop-count.invariant.going c.if-rest.true c.loop-count-test.true

pub cut_at-requires : goal.cut_at-requires
cut_at-requires c = c.loop-count.invariant.held

pub returns-in_err-behind : goal.returns-in_err-behind
returns-in_err-behind c =
    count-no _ _ c.requires c.if-list.false _ _ c.loop-count.invariant.held c.loop-count.invariant.going c.if-rest.false c.loop-count-test.true _
    c.cut_at.ensures _ c.in_err-behind.was _ c.from_residual.ensures.1

pub loop-count-preserved : goal.loop-count-preserved
loop-count-preserved c =
    record {
      held = count-behind _ _ c.requires c.if-list.false _ _ c.loop-count.invariant.held c.loop-count.invariant.going c.if-rest.false
          c.loop-count-test.true _ c.cut_at.ensures _ _ c.in_ok-behind.was;
      going = count-more _ _ c.requires c.if-list.false _ _ c.loop-count.invariant.held c.loop-count.invariant.going c.if-rest.false c.loop-count-test.true _
          c.cut_at.ensures _ _ c.in_ok-behind.was;
    }

pub returns : goal.returns
returns c = count-many _ _ c.requires c.if-list.false _ _ c.loop-count.invariant.held c.loop-count.invariant.going c.loop-count-test.false
