-- The fields, one behind the other. Assumes nothing.
use Prim.Native.Nat.{◌+◌}
use mathlib.Core.Path.{◌≡◌, ap}
use mir.Syntax.{w32}
use mir.Val.{SFits}
use mir.Facts.{to_z-of_z}
use Rattle.put.specs.Put.{unsigned32}
use lib.ListN.{length}
use Rattle.put.proofs.Laws.{wrote, step, group, done, as_number}
use Rattle.encode.specs.Encode.{encoded, Checksum, of_verify, head_fields, octet_vector_fields}
use Rattle.encode.proofs.Sizes.{length-encoded}
use borrow.Author.Rules.{rules}
use Rattle.encode_verify.proofs.put_verify.Goals as goal

pub returns : goal.returns
unfolding encoded
returns c =
    let whole : length c.args.scheme ≡ 16 = search rules in
    let id : length c.args.heading.conversation ≡ 16 = search rules in
    let f : SFits w32 c.args.checksum = search rules in
    let n = length c.args.value.now in
    let k : Checksum = record { scheme = c.args.scheme; type = c.args.checksum; value = c.args.value.now } in
    wrote (80 + n)
    (group (head_fields c.args.heading (80 + n)) c.put_head-scheme_at.ensures
    (step c.put_octets-header_length_at.ensures
    (step c.put_u32-checksum_scheme_at.ensures
    (step c.put_u32-type_at.ensures
    (step (as_number 4 (ap unsigned32 (to_z-of_z f)) c.put_i32-vector_at.ensures)
    (group (octet_vector_fields 80 n) c.put_octet_vector-pad_at.ensures (step c.put_u32-value_at.ensures (step c.put_octets.ensures done))))))))
    (length-encoded c.args.heading id (of_verify k) whole)
    c.requires.0
