use Rattle.message.proofs.Readings.{readings}
use Rattle.message.proofs.read_message.Goals as goal

pub returns-in_default : goal.returns-in_default
returns-in_default c = search readings

pub read_body-requires : goal.read_body-requires
read_body-requires c = search readings

pub returns : goal.returns
returns c = search readings
