use Prim.Native.Nat.{◌<◌}
use Rattle.calls.proofs.Sizes.{sized}
use Rattle.sending_nego.proofs.Replying.{reply-inside, reply-part, reply-nego, reply-place, reply-named}
use borrow.Author.Rules.{rules}
use Rattle.sending_nego.proofs.reply.reply_with.Goals as goal

pub slice_bounds-octets-end : goal.slice_bounds-octets-end
slice_bounds-octets-end c =
    reply-inside c.args.r (sized _ _ c.well_formed.0) c.requires.nego.ready.inside.few _ _ c.gather-schemes.ensures

pub slice_bounds-append_nego-end : goal.slice_bounds-append_nego-end
slice_bounds-append_nego-end c =
    reply-part c.args.r (sized _ _ c.well_formed.0) c.requires.nego.ready.inside.few _ _ c.gather-schemes.ensures

pub append_nego-next-requires : goal.append_nego-next-requires
append_nego-next-requires c =
    let small : c.args.marks < 65536 = search rules in
    reply-nego _ _ _ _ _ _ c.requires (sized _ _ c.well_formed.0) small _ c.gather-schemes.ensures

pub id_of-id-requires : goal.id_of-id-requires
id_of-id-requires c =
    reply-place _ _ _ _ _ _ c.requires _ c.choose_own-choice.ensures

pub returns : goal.returns
returns c =
    let small : c.args.marks < 65536 = search rules in
    reply-named _ _ _ _ _ _ c.requires (sized _ _ c.well_formed.0) small _ c.gather-schemes.ensures _ c.choose_own-choice.ensures _ _
    c.append_nego-next.ensures _ c.id_of-id.ensures _ c.naming.ensures
