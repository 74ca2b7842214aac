use Rattle.faults.proofs.Spots.{checksum-spots}
use Rattle.faults.proofs.checksum_spot.Goals as goal

pub returns-then-m-lt-VERIFY_HEADER_LEN : goal.returns-then-m-lt-VERIFY_HEADER_LEN
returns-then-m-lt-VERIFY_HEADER_LEN c = search checksum-spots

pub returns-then-le_u32-eq-CHECKSUM_HEADER : goal.returns-then-le_u32-eq-CHECKSUM_HEADER
returns-then-le_u32-eq-CHECKSUM_HEADER c = search checksum-spots

pub returns : goal.returns
returns c = search checksum-spots
