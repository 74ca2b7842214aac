use Rattle.calls.proofs.Sizes.{sized}
use Rattle.admitting.proofs.Allowed.{at_same}
use Rattle.admitting.proofs.fits.is_at.Goals as goal

pub returns-then-k-r : goal.returns-then-k-r
returns-then-k-r c = at_same _ _ _ c.requires (sized _ _ c.well_formed.0) c.if-k-r.true _ c.same_at.ensures
