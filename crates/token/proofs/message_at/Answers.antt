use Rattle.token.proofs.Walks.{walks}
use Rattle.token.proofs.message_at.Goals as goal

pub slice_bounds-first-count : goal.slice_bounds-first-count
slice_bounds-first-count c = search walks

pub slice_bounds-first-start : goal.slice_bounds-first-start
slice_bounds-first-start c = search walks

pub returns : goal.returns
returns c = search walks
