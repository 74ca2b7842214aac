use Rattle.faults.proofs.Spots.{critical-spots}
use borrow.Author.Rules.{rules}
use Rattle.faults.proofs.critical_spot.Goals as goal

pub returns-then-m-lt-NEGO_HEADER_LEN : goal.returns-then-m-lt-NEGO_HEADER_LEN
returns-then-m-lt-NEGO_HEADER_LEN c = search critical-spots

pub overflow_cast-result : goal.overflow_cast-result
overflow_cast-result c = record { fits = search critical-spots }

pub overflow_mul-result : goal.overflow_mul-result
overflow_mul-result c = record { fits = search critical-spots }

pub overflow_add-result : goal.overflow_add-result
overflow_add-result c = record { fits = search (rules, critical-spots) }

pub returns : goal.returns
returns c = search critical-spots
