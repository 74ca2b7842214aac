use mathlib.Core.Path.{◌≡◌}
use native.Mathlib.Omega.{arith}
use lib.ListN.{length}
use borrow.Author.Rules.{rules}
use Rattle.tally_lines.proofs.table_lines.Goals as goal

pub scheme_lines-requires : goal.scheme_lines-requires
scheme_lines-requires c =
    let i : length c.args.table.ids ≡ 1024 = search rules in
    let n : length c.args.table.counts ≡ 64 = search rules in
    (omega arith, omega arith)
