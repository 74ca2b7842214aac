-- The fields, one behind the other. Assumes nothing.
use mathlib.Core.Path.{◌≡◌}
use lib.ListN.{length, length-append}
use Rattle.put.proofs.Laws.{wrote, step, done, as_number}
use borrow.Author.Rules.{rules}
use Rattle.encode.proofs.put_head.Goals as goal

pub returns : goal.returns
returns c =
    let id : length c.args.heading.conversation ≡ 16 = search rules in
    wrote 40
    (step c.put_octets-type_at.ensures
    (step c.put_u32-sequence_at.ensures
    (step c.put_u32-header_length_at.ensures
    (step (as_number 4 c.header.ensures c.put_u32-length_at.ensures) (step c.put_u32-conversation_at.ensures (step c.put_octets.ensures done))))))
    (simp (length-append, id))
    c.requires
