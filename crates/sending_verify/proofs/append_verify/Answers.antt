use mathlib.Core.Path.{◌≡◌}
use lib.ListN.{length}
use borrow.Author.Rules.{rules}
use mir.Syntax.{w32}
use mir.Val.{SFits, to_z, of_z}
use Rattle.encode.specs.Encode.{of_verify}
use mir.Facts.{to_z-of_z}
use Rattle.calls.proofs.Sizes.{sized}
use Rattle.calls.proofs.Writes.{appends}
use Rattle.sending_verify.proofs.append_verify.Goals as goal

pub returns : goal.returns
returns c =
    let full : length c.args.id ≡ 16 = search rules in
    let w = c.write in
    let h = c.heading_of-heading in
    let f : SFits w32 c.args.checksum = search rules in
    appends _ (sized _ _ c.well_formed.0) _ _ _ full c.requires _ h.ensures w.result _
    (of_verify (record { scheme = c.args.id; type = to_z w32 (of_z w32 c.args.checksum); value = c.args.value.now })) w.ensures
    (rw (to_z-of_z f)) _ c.after_message.ensures
