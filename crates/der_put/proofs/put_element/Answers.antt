use Rattle.der.specs.Element.{element}
use Rattle.der_put.proofs.Heads.{both}
use Rattle.der_put.proofs.put_element.Goals as goal

pub returns : goal.returns
unfolding element
returns c =
    let back10 = c in
    both c.put_head-contents_at.ensures c.put_octets.ensures back10.requires.0
