-- The fields, one behind the other. Assumes nothing.
use mathlib.Core.Path.{◌≡◌, ap}
use mir.Syntax.{w32}
use mir.Val.{SFits}
use mir.Facts.{to_z-of_z}
use lib.ListN.{length, length-append}
use Rattle.put.specs.Put.{unsigned32}
use Rattle.put.proofs.Laws.{wrote, step, group, done, as_number}
use Rattle.encode.specs.Encode.{head_fields, vector_fields}
use borrow.Author.Rules.{rules}
use Rattle.encode_alert.proofs.put_header.Goals as goal

-- src/lib.rt:26:1
pub returns : goal.returns
returns c =
    let id : length c.args.heading.conversation ≡ 16 = search rules in
    let whole : length c.args.scheme ≡ 16 = search rules in
    let f : SFits w32 c.args.code = search rules in
    let a = c.args in
    wrote 72
    (group (head_fields a.heading a.size) c.put_head-scheme_at.ensures
    (step c.put_octets-code_at.ensures
    (step (as_number 4 (ap unsigned32 (to_z-of_z f)) c.put_i32-vector_at.ensures)
    (group (vector_fields a.offset.0 a.alerts) c.put_vector-pad_at.ensures (step c.put_u32.ensures done)))))
    (simp (length-append, id, whole))
    c.requires
