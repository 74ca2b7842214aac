use Rattle.negotiating.proofs.Openings.{freshly}
use Rattle.negotiating.proofs.opening.fresh_record.Goals as goal

pub returns : goal.returns
returns c = freshly _ _ _ _ c.requires c.copy_from_slice.ensures.after
