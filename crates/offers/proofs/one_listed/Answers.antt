use Rattle.offers.proofs.Entering.{from-bool}
use Rattle.offers.proofs.one_listed.Goals as goal

pub returns : goal.returns
returns c = from-bool _ _ _ c.has_id.ensures c.from.ensures
