use Rattle.std.proofs.Common.{rules}
use Rattle.der.proofs.Sizes.{limits}
use Rattle.der.proofs.at_most.Goals as goal

pub returns-then-v-eq1 : goal.returns-then-v-eq1
returns-then-v-eq1 c = search (rules, limits)

pub returns-else-v-eq1 : goal.returns-else-v-eq1
returns-else-v-eq1 c = search (rules, limits)
