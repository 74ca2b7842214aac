use mathlib.Core.Path.{◌≡◌}
use mir.Syntax.{w32}
use mir.Val.{SFits}
use mir.Facts.{to_z-of_z}
use lib.ListN.{length}
use Rattle.encode_alert.proofs.Storing.{alert-written}
use borrow.Author.Rules.{rules}
use Rattle.encode_alert.proofs.put_alert.Goals as goal

-- src/lib.rt:38:1
pub returns : goal.returns
returns c =
    let id : length c.args.heading.conversation ≡ 16 = search rules in
    let whole : length c.args.scheme ≡ 16 = search rules in
    let f : SFits w32 c.args.code = search rules in
    alert-written c.args.heading c.args.scheme c.args.code c.args.alerts c.args.values.now c.requires.0 id whole _ _
    c.requires.1.0 _ c.offset_of-offset.ensures _ (to_z-of_z f) _ _ c.put_header-array_at.ensures _ _ c.put_elements.ensures
