use Rattle.envelope_write.proofs.Stores.{check-refused, check-passed, check-written}
use Rattle.envelope_write.proofs.write_init.Goals as goal

pub returns-in_err-check_mechanisms : goal.returns-in_err-check_mechanisms
returns-in_err-check_mechanisms c = check-refused _ _ _ _ _ _ _ _ _ _ c.check_mechanisms.ensures _ c.in_err-check_mechanisms.was _ c.from_residual.ensures.1

pub size_init-requires : goal.size_init-requires
size_init-requires c = check-passed _ _ _ c.check_mechanisms.ensures _ c.in_ok-check_mechanisms.was

pub returns : goal.returns
returns c = check-written _ _ _ _ _ _ _ _ _ _ c.check_mechanisms.ensures _ c.in_ok-check_mechanisms.was _ c.size_init.ensures
