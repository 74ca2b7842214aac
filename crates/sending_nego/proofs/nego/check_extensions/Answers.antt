use Rattle.elements.proofs.Views.{few-given}
use Rattle.sending_nego.proofs.nego.check_extensions.Goals as goal

pub types_allowed-requires : goal.types_allowed-requires
types_allowed-requires c = few-given _ _ _ c.fits.ensures c.if-not-fits.false
