use Rattle.table.proofs.Spans.{spans}
use Rattle.table.proofs.fields.Goals as goal

pub returns : goal.returns
returns c = search spans
