use Rattle.std.proofs.Common.{refl}
use Rattle.faults.proofs.Tokens.{lefts, left-field, left-none}
use Rattle.faults.proofs.fault_at.Goals as goal

pub returns-in-TooShort : goal.returns-in-TooShort
returns-in-TooShort c = search lefts

pub spot_of-requires : goal.spot_of-requires
spot_of-requires c = search lefts

pub returns-in_err-spot_of-in_default : goal.returns-in_err-spot_of-in_default
returns-in_err-spot_of-in_default c =
    rw c.from_residual.ensures
    (left-none _ _ c.requires.0 c.requires.1 _ c.count_before-message.ensures _ c.in_default.not-TooShort _ c.first.ensures _
    c.in_err-spot_of-in_default.ensures refl)

pub returns-in_ok-spot_of-in_default : goal.returns-in_ok-spot_of-in_default
returns-in_ok-spot_of-in_default c =
    left-field _ _ c.requires.0 c.requires.1 _ c.count_before-message.ensures _ c.in_default.not-TooShort _ c.first.ensures _
    c.in_ok-spot_of-in_default.ensures _ c.fault_entry.ensures
