use mathlib.Core.Path.{◌≡◌}
use mathlib.Core.Bool.{false}
use lib.Dec.{leb}
use borrow.Author.Tests.{lt-leb}
use native.Mathlib.Omega.{arith}
use Rattle.admitting.proofs.Lists.{names-short, names_same}
use Rattle.admitting.proofs.named.names.Goals as goal

pub returns-then-min-ge-SCHEME_END : goal.returns-then-min-ge-SCHEME_END
returns-then-min-ge-SCHEME_END c =
    names_same c.args.s.now c.args.n c.args.id.now c.requires (omega (arith, c.min.ensures)) _ c.same_id.ensures

pub returns-else-min-ge-SCHEME_END : goal.returns-else-min-ge-SCHEME_END
returns-else-min-ge-SCHEME_END c =
    let e : leb 56 c.min.result ≡ false = lt-leb _ _ (omega arith) in
    rw e (names-short c.args.s.now c.args.n c.args.id.now c.requires (omega (arith, c.min.ensures)))
