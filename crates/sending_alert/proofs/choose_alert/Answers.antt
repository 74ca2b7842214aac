use mathlib.Core.Path.{refl, sym}
use borrow.Author.Rules.{rules}
use mir.Syntax.{w32}
use mir.Val.{SFits, to_z, of_z}
use mir.Facts.{to_z-of_z}
use Rattle.conversation.specs.Writing.{AlertContent, alarm}
use Rattle.sending_alert.proofs.choose_alert.Goals as goal

pub returns : goal.returns
returns c =
    let f : SFits w32 c.args.code = search rules in
    let g : AlertContent = record { code = to_z w32 (of_z w32 c.args.code); alerts = c.args.alerts; values = c.args.values.now } in
    rw (to_z-of_z f) at (c.choose_and.ensures (alarm g) refl (sym c.fits-fit.ensures) (λ q d e a w. search rules))
