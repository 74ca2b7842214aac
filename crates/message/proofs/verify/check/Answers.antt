use Rattle.message.proofs.Bodies.{verifies}
use Rattle.message.proofs.verify.check.Goals as goal

pub returns-then-not-keeps_rule : goal.returns-then-not-keeps_rule
returns-then-not-keeps_rule c = search verifies

pub returns-then-le_u32-ne-CHECKSUM_HEADER : goal.returns-then-le_u32-ne-CHECKSUM_HEADER
returns-then-le_u32-ne-CHECKSUM_HEADER c = search verifies

pub returns-then-le_u32-ne-RFC_3961 : goal.returns-then-le_u32-ne-RFC_3961
returns-then-le_u32-ne-RFC_3961 c = search verifies

pub returns : goal.returns
returns c = search verifies
