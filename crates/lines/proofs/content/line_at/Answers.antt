use Rattle.lines.proofs.Contents.{kinds}
use Rattle.lines.proofs.content.line_at.Goals as goal

pub returns-then-index-eq0 : goal.returns-then-index-eq0
returns-then-index-eq0 c = search kinds

pub nego_line-requires : goal.nego_line-requires
nego_line-requires c = search kinds

pub returns-then-kind-le-ACCEPTOR_NEGO : goal.returns-then-kind-le-ACCEPTOR_NEGO
returns-then-kind-le-ACCEPTOR_NEGO c = search kinds

pub exchange_line-requires : goal.exchange_line-requires
exchange_line-requires c = search kinds

pub returns-then-kind-le-AP_REQUEST : goal.returns-then-kind-le-AP_REQUEST
returns-then-kind-le-AP_REQUEST c = search kinds

pub verify_line-requires : goal.verify_line-requires
verify_line-requires c = search kinds

pub returns-then-kind-eq-VERIFY : goal.returns-then-kind-eq-VERIFY
returns-then-kind-eq-VERIFY c = search kinds

pub alert_line-requires : goal.alert_line-requires
alert_line-requires c = search kinds

pub returns : goal.returns
returns c = search kinds
