use mathlib.Core.Path.{◌≡◌}
use native.Mathlib.Omega.{arith}
use lib.ListN.{length}
use borrow.Author.Rules.{rules}
use mir.Syntax.{w32}
use mir.Val.{SFits}
use mir.Facts.{to_z-of_z}
use Rattle.calls.proofs.Sizes.{sized}
use Rattle.calls.proofs.Writes.{handed-appends}
use Rattle.elements.proofs.Views.{handed-small}
use Rattle.sending_alert.proofs.Alerts.{alert-size, alert-counted}
use Rattle.sending_alert.proofs.append_alert.Goals as goal

pub overflow_add-size : goal.overflow_add-size
overflow_add-size c =
    record { fits = omega (arith, c.size_of-size.ensures, handed-small c.args.alerts c.args.values.now) }

pub after_message-requires : goal.after_message-requires
after_message-requires c =
    let k =
    alert-counted _ _ _ _ _ _ c.requires _
    c.size_of-size.ensures in
    (k.0, omega (arith, k.1))

pub returns : goal.returns
returns c =
    let full : length c.args.id ≡ 16 = search rules in
    let f : SFits w32 c.args.code = search rules in
    let w = c.write in
    let k = alert-size _ _ _ _ _ _ c.requires _ c.size_of-size.ensures in
    handed-appends _ (sized _ _ c.well_formed.0) _ _ _ full c.requires.1 _ c.requires.0 _
    c.heading_of-heading.ensures w.result _ _ w.ensures (rw (to_z-of_z f)) _ k _
    c.after_message.ensures
