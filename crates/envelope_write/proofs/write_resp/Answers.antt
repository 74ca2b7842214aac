use Rattle.std.proofs.Common.{rules}
use Rattle.envelope_write.proofs.Stores.{resps}
use Rattle.envelope_write.proofs.write_resp.Goals as goal

pub returns-then-not-fine_state : goal.returns-then-not-fine_state
returns-then-not-fine_state c = search (rules, resps)

pub store_resp-requires : goal.store_resp-requires
store_resp-requires c = search (rules, resps)
