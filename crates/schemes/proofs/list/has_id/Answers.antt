use Rattle.schemes.proofs.Ids.{has-test}
use Rattle.schemes.proofs.list.has_id.Goals as goal

pub returns : goal.returns
returns c = has-test _ _ _ _ c.find.ensures
