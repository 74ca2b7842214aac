use borrow.Author.Rules.{rules}
use Rattle.envelope_write.proofs.Puts.{tail-fits, tail-put}
use borrow.Author.Rules.{rules}
use Rattle.envelope_write.proofs.put_tail.Goals as goal

pub put_field-token_at-requires : goal.put_field-token_at-requires
put_field-token_at-requires c = let q = tail-fits _ _ _ _ _ _ _ _ c.requires in (search rules, search rules)

pub put_field-checksum_at-requires : goal.put_field-checksum_at-requires
put_field-checksum_at-requires c =
    let q = tail-fits _ _ _ _ _ _ _ _ c.requires in
    (search rules, search rules)

pub put_field-requires : goal.put_field-requires
put_field-requires c =
    let q = (tail-fits _ _ _ _ _ _ _ _ c.requires) in
    (search rules, search rules)

pub returns : goal.returns
returns c =
    tail-put c.args.inner c.args.named c.args.second.now c.args.carried c.args.token.now c.args.checked
    c.args.checksum.now _ _ _ _ _ _ _ _ c.requires c.put_field-token_at.ensures c.put_field-checksum_at.ensures
    c.put_field.ensures
