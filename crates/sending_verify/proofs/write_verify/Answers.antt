use borrow.Author.Rules.{rules}
use Rattle.calls.proofs.Sizes.{sized}
use mir.Syntax.{w32}
use mir.Val.{SFits}
use mir.Facts.{to_z-of_z}
use Rattle.sending.proofs.Named.{named-inside}
use Rattle.sending_verify.proofs.Verifies.{verify-refused, verify-ready, verify-written}
use Rattle.sending_verify.proofs.write_verify.Goals as goal

pub returns-in-Err : goal.returns-in-Err
returns-in-Err c =
    verify-refused _ (sized _ _ c.well_formed.0) _ _ _ _ c.in-Err.ensures _ c.refused.ensures

pub scheme_id-id-requires : goal.scheme_id-id-requires
scheme_id-id-requires c = named-inside _ _ _ _ _ c.in_default.ensures

pub append_verify-next-requires : goal.append_verify-next-requires
append_verify-next-requires c =
    verify-ready _ (sized _ _ c.well_formed.0) _ _ _ c.in_default.ensures _

pub returns : goal.returns
returns c =
    let f : SFits w32 c.args.checksum = search rules in
    verify-written _ (sized _ _ c.well_formed.0) _ _ _ c.in_default.ensures _ c.scheme_id-id.ensures _
    (to_z-of_z f) _ _ c.append_verify-next.ensures _ c.accepted.ensures
