use Rattle.envelope_write.proofs.Puts.{init-fits, init-list-room, init-tail-room, init-put, init-token}
use borrow.Author.Rules.{rules}
use Rattle.envelope_write.proofs.put_init.Goals as goal

pub overflow_add-wrapped : goal.overflow_add-wrapped
overflow_add-wrapped c =
    let q =
    init-token _ _ _ _ _ _ _ _ c.requires c.element_size-sequence.ensures
    c.element_size-wrapped.ensures in search rules

pub put_head-spnego_at-requires : goal.put_head-spnego_at-requires
put_head-spnego_at-requires c =
    let q = (init-fits _ _ _ _ _ _ _ _ c.requires c.element_size-sequence.ensures c.element_size-wrapped.ensures) in
    (search rules, search rules)

pub put_element-init_at-requires : goal.put_element-init_at-requires
put_element-init_at-requires c =
    let q = (init-fits _ _ _ _ _ _ _ _ c.requires c.element_size-sequence.ensures c.element_size-wrapped.ensures) in
    (search rules, search rules)

pub put_head-sequence_at-requires : goal.put_head-sequence_at-requires
put_head-sequence_at-requires c =
    let q = (init-fits _ _ _ _ _ _ _ _ c.requires c.element_size-sequence.ensures c.element_size-wrapped.ensures) in
    (search rules, search rules)

pub put_head-list_at-requires : goal.put_head-list_at-requires
put_head-list_at-requires c =
    let q = (init-fits _ _ _ _ _ _ _ _ c.requires c.element_size-sequence.ensures c.element_size-wrapped.ensures) in
    (search rules, search rules)

pub put_list-tail_at-requires : goal.put_list-tail_at-requires
put_list-tail_at-requires c =
    init-list-room c.args.sizes.now c.args.octets.now c.args.flagged c.args.flags.now c.args.carried
    c.args.token.now c.args.checked c.args.checksum.now _ _ _ _ _ _ _ _ _ _ _ _ _ c.requires
    c.element_size-sequence.ensures c.element_size-wrapped.ensures c.put_head-spnego_at.ensures c.put_element-init_at.ensures
    c.put_head-sequence_at.ensures c.put_head-list_at.ensures

pub put_tail-requires : goal.put_tail-requires
put_tail-requires c =
    init-tail-room c.args.sizes.now c.args.octets.now c.args.flagged c.args.flags.now c.args.carried
    c.args.token.now c.args.checked c.args.checksum.now _ _ _ _ _ _ _ _ _ _ _ _ _ c.requires
    c.element_size-sequence.ensures c.element_size-wrapped.ensures c.put_head-spnego_at.ensures c.put_element-init_at.ensures
    c.put_head-sequence_at.ensures c.put_head-list_at.ensures _ _ c.put_list-tail_at.ensures

pub returns : goal.returns
returns c =
    init-put c.args.sizes.now c.args.octets.now c.args.flagged c.args.flags.now c.args.carried
    c.args.token.now c.args.checked c.args.checksum.now _ _ _ _ _ _ _ _ _ _ _ _ _ c.requires
    c.element_size-sequence.ensures c.element_size-wrapped.ensures c.put_head-spnego_at.ensures c.put_element-init_at.ensures
    c.put_head-sequence_at.ensures c.put_head-list_at.ensures _ _ c.put_list-tail_at.ensures _ _ c.put_tail.ensures
