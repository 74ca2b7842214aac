use mathlib.Core.Path.{sym}
use native.Mathlib.Omega.{arith}
use lib.ListN.{drop_of_length-le}
use Rattle.commands.proofs.random_and_values.Goals as goal

pub returns-in-None-clause-values : goal.returns-in-None-clause-values
returns-in-None-clause-values c = let h = c.in-None.ensures.cases in sym (drop_of_length-le c.args.octets.now {i = 32} (omega arith))
