use Rattle.negotiating.proofs.Openings.{opens, opens_not, list-fits}
use Rattle.negotiating.proofs.opening.open.Goals as goal

pub returns-then-not-list_ok : goal.returns-then-not-list_ok
returns-then-not-list_ok c = opens_not _ _ _ _ c.list_ok.ensures _ _ c.if-not-list_ok.true c.fresh_record-none.ensures c.refused.ensures

pub fresh_record-requires : goal.fresh_record-requires
fresh_record-requires c = list-fits _ _ c.list_ok.ensures c.if-not-list_ok.false

pub returns : goal.returns
returns c =
    opens _ _ _ _ c.list_ok.ensures _ _ c.if-not-list_ok.false _ c.conversation_for-id.ensures c.fresh_record.ensures c.accepted.ensures
