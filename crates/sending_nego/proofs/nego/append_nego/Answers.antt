use mathlib.Core.Path.{◌≡◌, refl}
use lib.ListN.{length}
use Rattle.calls.proofs.Sizes.{sized}
use Rattle.calls.proofs.Writes.{handed-appends}
use Rattle.sending_nego.proofs.Extensions.{nego-size, nego-counted, nego-small}
use borrow.Author.Rules.{rules}
use Rattle.sending_nego.proofs.nego.append_nego.Goals as goal

pub overflow_add-schemes-2 : goal.overflow_add-schemes-2
overflow_add-schemes-2 c =
    record { fits = nego-small _ _ _ _ _ _ c.requires _ c.size_of-size.ensures }

pub after_message-requires : goal.after_message-requires
after_message-requires c =
    nego-counted _ _ _ _ _ _ c.requires _ c.size_of-size.ensures

pub returns : goal.returns
returns c =
    let full : length c.args.random ≡ 32 = search rules in
    let w = c.write in
    let k = nego-size _ _ _ _ _ _ c.requires _ c.size_of-size.ensures in
    handed-appends _ (sized _ _ c.well_formed.0) _ _ _ full c.requires.ready _ c.requires.keeps _
    c.heading_of-heading.ensures w.result _ _ w.ensures refl _ k _ c.after_message.ensures
