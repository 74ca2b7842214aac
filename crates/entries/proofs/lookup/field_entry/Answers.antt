use Rattle.entries.proofs.Pieces.{fields-are}
use Rattle.entries.proofs.lookup.field_entry.Goals as goal

pub returns : goal.returns
returns c = search fields-are
