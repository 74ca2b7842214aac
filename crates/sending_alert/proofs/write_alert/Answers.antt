use borrow.Author.Rules.{rules}
use mir.Syntax.{w32}
use mir.Val.{SFits}
use mir.Facts.{to_z-of_z}
use Rattle.calls.proofs.Sizes.{sized}
use Rattle.conversation.specs.Writing.{AlertContent}
use Rattle.sending.proofs.Named.{named-inside}
use Rattle.sending_alert.proofs.Alerts.{alert-refused, alert-ready, alert-written}
use Rattle.sending_alert.proofs.write_alert.Goals as goal

pub returns-in-Err : goal.returns-in-Err
returns-in-Err c =
    let g : AlertContent = record { code = c.args.code; alerts = c.args.alerts; values = c.args.values.now } in
    alert-refused _ (sized _ _ c.well_formed.0) _ g _ c.fits-fit.ensures _
    c.size_of-size.ensures _ c.in-Err.ensures _ c.refused.ensures

pub scheme_id-id-requires : goal.scheme_id-id-requires
scheme_id-id-requires c = named-inside _ _ _ _ _ c.in_default.ensures

pub append_alert-requires : goal.append_alert-requires
append_alert-requires c =
    let g : AlertContent = record { code = c.args.code; alerts = c.args.alerts; values = c.args.values.now } in
    alert-ready _ (sized _ _ c.well_formed.0) _ g _ c.fits-fit.ensures _
    c.size_of-size.ensures c.in_default.ensures _ _

pub returns : goal.returns
returns c =
    let f : SFits w32 c.args.code = search rules in
    let g : AlertContent = record { code = c.args.code; alerts = c.args.alerts; values = c.args.values.now } in
    alert-written _ (sized _ _ c.well_formed.0) _ g _ c.fits-fit.ensures _ c.size_of-size.ensures c.in_default.ensures _ c.scheme_id-id.ensures _
    (to_z-of_z f) _ _ c.append_alert.ensures _ c.accepted.ensures
