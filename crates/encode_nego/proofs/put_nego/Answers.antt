use mathlib.Core.Path.{◌≡◌}
use lib.ListN.{length}
use Rattle.encode_nego.proofs.Storing.{nego-written}
use borrow.Author.Rules.{rules}
use Rattle.encode_nego.proofs.put_nego.Goals as goal

-- src/lib.rt:50:1
pub returns : goal.returns
returns c =
    let id : length c.args.heading.conversation ≡ 16 = search rules in
    let whole : length c.args.random ≡ 32 = search rules in
    nego-written c.args.heading c.args.random c.args.schemes.now c.args.extensions c.args.values.now c.requires.0 id whole _ _
    c.requires.1.0 _ c.offset_of-offset.ensures _ _ c.put_header-schemes_at.ensures _ _ c.put_octets-array_at.ensures _ _
    c.put_elements.ensures
