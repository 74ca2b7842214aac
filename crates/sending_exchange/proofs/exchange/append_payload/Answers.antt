use mathlib.Core.Path.{◌≡◌, refl}
use lib.ListN.{length}
use borrow.Author.Rules.{rules}
use Rattle.calls.proofs.Sizes.{sized}
use Rattle.calls.proofs.Writes.{appends}
use Rattle.sending_exchange.proofs.exchange.append_payload.Goals as goal

pub returns : goal.returns
returns c =
    let full : length c.args.id ≡ 16 = search rules in
    let w = c.write in
    let h = c.heading_of in
    appends _ (sized _ _ c.well_formed.0) _ _ _ full c.requires _ h.ensures w.result _ _ w.ensures refl _ c.after_message.ensures
