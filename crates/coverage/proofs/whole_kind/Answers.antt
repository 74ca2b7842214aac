use Rattle.std.proofs.Common.{arith}
use Rattle.coverage.proofs.Marks.{kind-here, header-here}
use Rattle.coverage.proofs.whole_kind.Goals as goal

pub returns-then-m-header : goal.returns-then-m-header
returns-then-m-header c = omega (arith, header-here c.args.m.now _ c.le_u32.ensures _ c.header.ensures)

pub returns : goal.returns
returns c = (kind-here c.args.m.now _ c.le_u32.ensures, omega (arith, header-here c.args.m.now _ c.le_u32.ensures _ c.header.ensures))
