use Rattle.token.proofs.Walks.{ways}
use Rattle.token.proofs.walk_to.Goals as goal

pub loop-init : goal.loop-init
loop-init c = search ways

pub overflow_cast-end : goal.overflow_cast-end
overflow_cast-end c = record { fits = search ways }

pub slice_bounds-rest-count : goal.slice_bounds-rest-count
slice_bounds-rest-count c = search ways

pub slice_bounds-rest-start : goal.slice_bounds-rest-start
slice_bounds-rest-start c = search ways

pub loop-preserved : goal.loop-preserved
loop-preserved c = search ways

pub returns : goal.returns
returns c = search ways
