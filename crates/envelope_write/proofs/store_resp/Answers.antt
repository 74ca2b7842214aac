use Rattle.envelope_write.proofs.Stores.{resps}
use borrow.Author.Rules.{rules}
use Rattle.envelope_write.proofs.store_resp.Goals as goal

pub element_size-all-requires : goal.element_size-all-requires
element_size-all-requires c = search (rules, resps)

pub returns-then-all-gt65535 : goal.returns-then-all-gt65535
returns-then-all-gt65535 c = search (rules, resps)

pub returns-then-d-all : goal.returns-then-d-all
returns-then-d-all c = search (rules, resps)

pub put_resp-requires : goal.put_resp-requires
put_resp-requires c = search (rules, resps)

pub returns : goal.returns
returns c = search (rules, resps)
