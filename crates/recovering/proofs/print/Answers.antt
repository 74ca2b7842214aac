use Rattle.std.proofs.Common.{rules, arith}
use Rattle.recovering.proofs.Printing.{recovered-few}
use Rattle.recovering.proofs.print.Goals as goal

pub print_all-requires : goal.print_all-requires
print_all-requires c = omega (arith, recovered-few c.args.file.now (search rules))
