use Rattle.lines.proofs.Contents.{kinds}
use Rattle.lines.proofs.count.Goals as goal

pub returns-then-kind-le-ACCEPTOR_NEGO : goal.returns-then-kind-le-ACCEPTOR_NEGO
returns-then-kind-le-ACCEPTOR_NEGO c = search kinds

pub returns-then-kind-le-VERIFY : goal.returns-then-kind-le-VERIFY
returns-then-kind-le-VERIFY c = search kinds

pub returns : goal.returns
returns c = search kinds
