use Rattle.std.proofs.Common.{rules}
use Rattle.envelope_write.proofs.Sums.{state-there}
use Rattle.envelope_write.proofs.fine_state.Goals as goal

pub returns-else-not-there : goal.returns-else-not-there
returns-else-not-there c = search (rules, state-there)
