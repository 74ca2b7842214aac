use Rattle.envelope_write.proofs.Puts.{list-fits, list-identifiers, list_put}
use borrow.Author.Rules.{rules}
use Rattle.envelope_write.proofs.put_list.Goals as goal

pub put_head-sequence_at-requires : goal.put_head-sequence_at-requires
put_head-sequence_at-requires c = let q = list-fits _ _ _ _ _ _ c.requires c.element_size-inner.ensures in (search rules, search rules)

pub put_head-identifiers_at-requires : goal.put_head-identifiers_at-requires
put_head-identifiers_at-requires c =
    let q = (list-fits _ _ _ _ _ _ c.requires c.element_size-inner.ensures) in
    (search rules, search rules)

pub put_identifiers-requires : goal.put_identifiers-requires
put_identifiers-requires c =
    list-identifiers _ _ _ _ _ _ c.requires c.element_size-inner.ensures _ _ _ _ c.put_head-sequence_at.ensures
    c.put_head-identifiers_at.ensures

pub returns : goal.returns
returns c =
    list_put _ _ _ _ _ _ c.requires c.element_size-inner.ensures _ _ _ _ c.put_head-sequence_at.ensures c.put_head-identifiers_at.ensures _ _
    c.put_identifiers.ensures
