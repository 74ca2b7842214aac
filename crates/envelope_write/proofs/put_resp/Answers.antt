use Rattle.envelope_write.proofs.Puts.{resp-fits, resp-tail-room, resp-put}
use borrow.Author.Rules.{rules}
use Rattle.envelope_write.proofs.put_resp.Goals as goal

pub put_head-sequence_at-requires : goal.put_head-sequence_at-requires
put_head-sequence_at-requires c =
    let q =
    resp-fits _ _ _ _ _ c.requires c.element_size-sequence.ensures in (search rules, search rules)

pub put_head-state_at-requires : goal.put_head-state_at-requires
put_head-state_at-requires c =
    let q = (resp-fits _ _ _ _ _ c.requires c.element_size-sequence.ensures) in
    (search rules, search rules)

pub put_field-tail_at-requires : goal.put_field-tail_at-requires
put_field-tail_at-requires c =
    let q = (resp-fits _ _ _ _ _ c.requires c.element_size-sequence.ensures) in
    (search rules, search rules)

pub put_tail-requires : goal.put_tail-requires
put_tail-requires c =
    resp-tail-room c.args.stated c.args.state c.args.named c.args.mechanism.now c.args.carried
    c.args.token.now c.args.checked c.args.checksum.now _ _ _ _ _ _ _ _ _ c.requires
    c.element_size-sequence.ensures c.put_head-sequence_at.ensures c.put_head-state_at.ensures c.put_field-tail_at.ensures

pub returns : goal.returns
returns c =
    resp-put c.args.stated c.args.state c.args.named c.args.mechanism.now c.args.carried
    c.args.token.now c.args.checked c.args.checksum.now _ _ _ _ _ _ _ _ _ c.requires
    c.element_size-sequence.ensures c.put_head-sequence_at.ensures c.put_head-state_at.ensures c.put_field-tail_at.ensures _ _
    c.put_tail.ensures
