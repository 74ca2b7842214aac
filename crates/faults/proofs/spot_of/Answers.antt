use Rattle.faults.specs.Faults.{spot_of}
use Rattle.faults.proofs.Spots.{spots}
use Rattle.faults.proofs.spot_of.Goals as goal

pub returns-in-Signature : goal.returns-in-Signature
returns-in-Signature c = unfold spot_of in search spots

pub returns-in-Type : goal.returns-in-Type
returns-in-Type c = unfold spot_of in search spots

pub returns-in-HeaderLength : goal.returns-in-HeaderLength
returns-in-HeaderLength c = unfold spot_of in search spots

pub returns-in-MessageLength : goal.returns-in-MessageLength
returns-in-MessageLength c = unfold spot_of in search spots

pub returns-in-Sequence : goal.returns-in-Sequence
returns-in-Sequence c = unfold spot_of in search spots

pub returns-in-Conversation : goal.returns-in-Conversation
returns-in-Conversation c = unfold spot_of in search spots

pub returns-in-Version : goal.returns-in-Version
returns-in-Version c = unfold spot_of in search spots

pub returns-in-Vector : goal.returns-in-Vector
returns-in-Vector c = unfold spot_of in search spots

pub returns-in-CriticalExtension : goal.returns-in-CriticalExtension
returns-in-CriticalExtension c = unfold spot_of in search spots

pub returns-in-Checksum : goal.returns-in-Checksum
returns-in-Checksum c = unfold spot_of in search spots

pub returns-in_default : goal.returns-in_default
returns-in_default c = search spots
