use Rattle.std.proofs.Common.{◌∙◌, ap}
use Rattle.octets.proofs.Same.{compared}
use Rattle.octets.specs.Octets.{same_octets}
use Rattle.envelope_parts.proofs.is_negoex.Goals as goal

pub returns : goal.returns
returns c = c.eq.ensures ∙ compared _ _ ∙ ap (same_octets c.args.v.now) c.as_slice.ensures
