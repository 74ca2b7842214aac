use Rattle.std.proofs.Common.{rules}
use Rattle.der.proofs.Sizes.{sizing}
use Rattle.der.proofs.size.Goals as goal

pub returns-then-v-eq0 : goal.returns-then-v-eq0
returns-then-v-eq0 c = search (rules, sizing)

pub returns-then-v-lt128 : goal.returns-then-v-lt128
returns-then-v-lt128 c = search (rules, sizing)

pub returns : goal.returns
returns c = search (rules, sizing)
