use mathlib.Core.Path.{refl}
use borrow.Author.Rules.{rules}
use mir.Syntax.{w32}
use mir.Val.{SFits, to_z, of_z}
use mir.Facts.{to_z-of_z}
use Rattle.conversation.specs.Writing.{checksum}
use Rattle.sending_verify.proofs.choose_verify.Goals as goal

pub returns : goal.returns
returns c =
    let f : SFits w32 c.args.checksum = search rules in
    rw (to_z-of_z f) at
    (c.choose_and.ensures (checksum (to_z w32 (of_z w32 c.args.checksum)) c.args.value.now) refl refl (λ q d e a w. search rules))
