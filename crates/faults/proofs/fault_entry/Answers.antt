use Rattle.faults.proofs.Tokens.{entries_at}
use Rattle.faults.proofs.fault_entry.Goals.{then-rest-size-via-then-rest-size, then-rest-size-via-else-rest-size+then-rest-size-2, then-rest-size-via-else-rest-size+else-rest-size-2+then-size-lt2}
use Rattle.faults.proofs.fault_entry.Goals as goal

pub returns-then-rest-size : goal.returns-then-rest-size
returns-then-rest-size c =
    elim c.then-rest-size.branch [
      | then-rest-size-via-then-rest-size w ↦ search entries_at
      | then-rest-size-via-else-rest-size+then-rest-size-2 w ↦ search entries_at
      | then-rest-size-via-else-rest-size+else-rest-size-2+then-size-lt2 w ↦ search entries_at
    ]

pub returns : goal.returns
returns c = search entries_at
