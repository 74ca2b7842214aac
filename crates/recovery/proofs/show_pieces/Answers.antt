use borrow.Author.Rules.{rules}
use mathlib.Core.Path.{refl}
use Rattle.recovery.proofs.Scanning.{ways}
use Rattle.recovery.proofs.show_pieces.Goals as goal

pub loop-scan-init : goal.loop-scan-init
loop-scan-init c = (refl, search ways)

pub advance-scan-requires : goal.advance-scan-requires
advance-scan-requires c = record { in_file = search ways; going = search ways }

pub loop-scan-smaller : goal.loop-scan-smaller
loop-scan-smaller c = search ways

pub loop-scan-preserved : goal.loop-scan-preserved
loop-scan-preserved c = (search rules, search ways)

pub show_stretch-progress-requires : goal.show_stretch-progress-requires
show_stretch-progress-requires c = search ways

pub returns : goal.returns
returns c = record { shows = search ways; counts = search ways }
