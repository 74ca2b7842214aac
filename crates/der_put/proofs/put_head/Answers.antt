use Rattle.der_put.proofs.Heads.{puts}
use Rattle.der_put.proofs.put_head.Goals as goal

pub returns-then-n-lt128 : goal.returns-then-n-lt128
returns-then-n-lt128 c = search puts

pub returns-then-n-lt256 : goal.returns-then-n-lt256
returns-then-n-lt256 c = search puts

pub returns : goal.returns
returns c = search puts
