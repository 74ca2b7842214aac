-- The fields, one behind the other. Assumes nothing.
use mathlib.Core.Path.{◌≡◌}
use lib.ListN.{length, length-append}
use Rattle.put.proofs.Laws.{wrote, step, group, done}
use Rattle.encode.specs.Encode.{head_fields, vector_fields}
use borrow.Author.Rules.{rules}
use Rattle.encode_nego.proofs.put_header.Goals as goal

-- src/lib.rt:24:1
pub returns : goal.returns
returns c =
    let id : length c.args.heading.conversation ≡ 16 = search rules in
    let whole : length c.args.random ≡ 32 = search rules in
    let a = c.args in
    wrote 96
    (group (head_fields a.heading a.size) c.put_head-random_at.ensures
    (step c.put_octets-version_at.ensures
    (step c.put_octets-schemes_at.ensures
    (group (vector_fields 96 a.schemes) c.put_vector-extensions_at.ensures
    (group (vector_fields a.offset.0 a.extensions) c.put_vector.ensures done)))))
    (simp (length-append, id, whole))
    c.requires
