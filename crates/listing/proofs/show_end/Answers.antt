use Rattle.listing.proofs.Stepping.{line-put}
use Rattle.listing.proofs.show_end.Goals as goal

pub returns : goal.returns
returns c = search line-put
