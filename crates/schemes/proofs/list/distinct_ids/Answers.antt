use Rattle.schemes.proofs.Ids.{repeats, distinct-repeat, distinct_more}
use Rattle.schemes.proofs.list.distinct_ids.Goals as goal

pub loop-k-init : goal.loop-k-init
loop-k-init c = search repeats

pub returns-then-has_id : goal.returns-then-has_id
returns-then-has_id c =
    let s = c.split_at.ensures in
    distinct-repeat c.args.list.now c.args.n c.loop-k.k _ c.loop-k.invariant c.loop-k-test.true _ _ s.front s.back _ c.has_id.ensures c.if-has_id.true

pub loop-k-preserved : goal.loop-k-preserved
loop-k-preserved c =
    let s = c.split_at.ensures in
    distinct_more c.args.list.now c.args.n c.loop-k.k _ c.loop-k.invariant c.loop-k-test.true _ _ s.front s.back _ c.has_id.ensures c.if-has_id.false

pub returns : goal.returns
returns c = search repeats
