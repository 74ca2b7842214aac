use Rattle.der_put.proofs.Heads.{field_put, field-absent}
use Rattle.der_put.proofs.put_field.Goals as goal

pub returns-then-not-there : goal.returns-then-not-there
returns-then-not-there c = field-absent _ _ _ _ _ _ c.if-not-there.true

pub returns : goal.returns
returns c =
    field_put _ _ _ _ _ _ _ _ _ _ _ c.if-not-there.false c.element_size.ensures c.put_head-element_at.ensures c.put_element.ensures c.requires.0
