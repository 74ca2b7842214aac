use Rattle.std.proofs.Common.{rules, arith}
use Rattle.console.proofs.Printing.{listed-few}
use Rattle.console.proofs.print.Goals as goal

pub print_all-requires : goal.print_all-requires
print_all-requires c = omega (arith, listed-few c.args.token.now (search rules))
