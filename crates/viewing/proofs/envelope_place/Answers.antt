use Rattle.viewing.proofs.Faults.{spans}
use Rattle.viewing.proofs.envelope_place.Goals as goal

pub returns-in-Ok : goal.returns-in-Ok
returns-in-Ok c = search spans

pub returns-in-Err : goal.returns-in-Err
returns-in-Err c = search spans
