use Rattle.envelope_write.proofs.Stores.{inits, init-limit}
use borrow.Author.Rules.{rules}
use Rattle.envelope_write.proofs.store_init.Goals as goal

pub element_size-requires-2 : goal.element_size-requires-2
element_size-requires-2 c = search (rules, inits)

pub overflow_add-element_size : goal.overflow_add-element_size
overflow_add-element_size c =
    let q =
    init-limit _ _ _ c.requires.limit c.element_size.ensures
    c.element_size-2.ensures in search rules

pub element_size-all-requires : goal.element_size-all-requires
element_size-all-requires c = search (rules, inits)

pub returns-then-all-gt65535 : goal.returns-then-all-gt65535
returns-then-all-gt65535 c = search (rules, inits)

pub returns-then-d-all : goal.returns-then-d-all
returns-then-d-all c = search (rules, inits)

pub put_init-requires : goal.put_init-requires
put_init-requires c = search (rules, inits)

pub returns : goal.returns
returns c = search (rules, inits)
