use Rattle.tallying.proofs.Steps.{tables}
use Rattle.tallying.proofs.with_offer.Goals as goal

pub returns-then-kind-gt-ACCEPTOR_NEGO : goal.returns-then-kind-gt-ACCEPTOR_NEGO
returns-then-kind-gt-ACCEPTOR_NEGO c = search tables

pub returns : goal.returns
returns c = search tables
