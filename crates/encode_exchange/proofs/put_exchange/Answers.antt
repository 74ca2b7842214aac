-- The fields, one behind the other. Assumes nothing.
use Prim.Native.Nat.{◌+◌}
use mathlib.Core.Path.{◌≡◌}
use lib.ListN.{length}
use Rattle.put.proofs.Laws.{wrote, step, group, done}
use Rattle.encode.specs.Encode.{encoded, Payload, of_exchange, head_fields, octet_vector_fields}
use Rattle.encode.proofs.Sizes.{length-encoded}
use borrow.Author.Rules.{rules}
use Rattle.encode_exchange.proofs.put_exchange.Goals as goal

pub returns : goal.returns
unfolding encoded
returns c =
    let id : length c.args.heading.conversation ≡ 16 = search rules in
    let whole : length c.args.scheme ≡ 16 = search rules in
    let n = length c.args.value.now in
    let p : Payload = record { scheme = c.args.scheme; value = c.args.value.now } in
    wrote (64 + n)
    (group (head_fields c.args.heading (64 + n)) c.put_head-scheme_at.ensures
    (step c.put_octets-vector_at.ensures (group (octet_vector_fields 64 n) c.put_octet_vector-value_at.ensures (step c.put_octets.ensures done))))
    (length-encoded c.args.heading id (of_exchange p) whole)
    c.requires.0
