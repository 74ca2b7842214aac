use borrow.Author.Rules.{rules}
use mathlib.Core.Path.{◌≡◌}
use native.Mathlib.Omega.{arith}
use lib.ListN.{length}
use lib.Seq.{set_out}
use Rattle.script.specs.Grammar.{size_of}
use Rattle.script.proofs.item.added.Goals as goal

pub returns-then-i-lt-MOST : goal.returns-then-i-lt-MOST
returns-then-i-lt-MOST c = rw c.size_of.ensures

pub returns-else-i-lt-MOST : goal.returns-else-i-lt-MOST
returns-else-i-lt-MOST c =
    let a : length c.args.e.types ≡ 8 = search rules in
    let b : length c.args.e.sizes ≡ 8 = search rules in
    rw (
      set_out c.args.e.types c.args.e.count c.args.kind (omega arith),
      set_out c.args.e.sizes
          c.args.e.count (size_of c.args.n) (omega arith),
    )
