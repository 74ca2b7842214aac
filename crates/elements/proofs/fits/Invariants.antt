use lib.ListN.{length}
use Rattle.elements.proofs.Limits.{Tested}
use Rattle.elements.proofs.fits.Given as goal

abbrev pub invariant-loop-size : goal.invariant-loop-size
invariant-loop-size l = Tested (length l.values) l.fn.e.count l.fn.e.sizes l.size-index l.total
