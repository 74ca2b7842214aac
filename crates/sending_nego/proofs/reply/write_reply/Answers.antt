use mathlib.Core.Path.{◌≡◌}
use lib.ListN.{length}
use Rattle.calls.proofs.Sizes.{sized}
use Rattle.conversation.specs.Writing.{NegoContent}
use Rattle.sending_nego.proofs.Replying.{reply-ready, reply-refused, reply-written}
use borrow.Author.Rules.{rules}
use Rattle.sending_nego.proofs.reply.write_reply.Goals as goal

pub returns-in-Err : goal.returns-in-Err
returns-in-Err c =
    let full : length c.args.random ≡ 32 = search rules in
    let g : NegoContent =
    record { random = c.args.random; test = c.args.test; extensions = c.args.extensions; values = c.args.values.now } in
    reply-refused _ (sized _ _ c.well_formed.0) _ _ g full _ c.in-Err.ensures _ c.refused.ensures

pub reply_with-requires : goal.reply_with-requires
reply_with-requires c =
    let full : length c.args.random ≡ 32 = search rules in
    let g : NegoContent =
    record { random = c.args.random; test = c.args.test; extensions = c.args.extensions; values = c.args.values.now } in
    reply-ready _ (sized _ _ c.well_formed.0) _ _ g full c.in_default.ensures

pub returns : goal.returns
returns c =
    let full : length c.args.random ≡ 32 = search rules in
    let g : NegoContent =
    record { random = c.args.random; test = c.args.test; extensions = c.args.extensions; values = c.args.values.now } in
    reply-written _ (sized _ _ c.well_formed.0) _ _ g full c.in_default.ensures _ c.reply_with.ensures
