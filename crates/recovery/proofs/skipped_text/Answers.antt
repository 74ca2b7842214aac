use Rattle.recovery.proofs.Scanning.{skipped-text}
use Rattle.recovery.proofs.skipped_text.Goals as goal

pub returns : goal.returns
returns c = search skipped-text
