use Rattle.calls.proofs.Sizes.{sized}
use Rattle.sending.proofs.Named.{named-inside}
use Rattle.sending_exchange.proofs.Exchanges.{exchange-refused, exchange-ready, exchange-written}
use Rattle.sending_exchange.proofs.exchange.write_exchange.Goals as goal

pub returns-in-Err : goal.returns-in-Err
returns-in-Err c = exchange-refused _ (sized _ _ c.well_formed.0) _ _ _ c.in-Err.ensures _ c.refused.ensures

pub scheme_id-id-requires : goal.scheme_id-id-requires
scheme_id-id-requires c = named-inside _ _ _ _ _ c.in_default.ensures

pub append_payload-next-requires : goal.append_payload-next-requires
append_payload-next-requires c = exchange-ready _ (sized _ _ c.well_formed.0) _ _ c.in_default.ensures _

pub returns : goal.returns
returns c =
    exchange-written _ (sized _ _ c.well_formed.0) _ _ c.in_default.ensures _ c.scheme_id-id.ensures _ c.requested_by-requested.ensures _ _
    c.append_payload-next.ensures _ c.accepted.ensures
