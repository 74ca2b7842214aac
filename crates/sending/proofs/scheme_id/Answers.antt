use Rattle.sending.proofs.Schemes.{scheme-named}
use Rattle.sending.proofs.scheme_id.Goals as goal

pub returns : goal.returns
returns c = search scheme-named
