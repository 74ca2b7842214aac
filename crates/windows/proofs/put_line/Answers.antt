use Rattle.windows.proofs.Stepping.{puts}
use Rattle.windows.proofs.put_line.Goals as goal

pub returns-then-p-eq0 : goal.returns-then-p-eq0
returns-then-p-eq0 c = search puts

pub returns-then-p-ne0 : goal.returns-then-p-ne0
returns-then-p-ne0 c = search puts

pub returns-then-d-p : goal.returns-then-d-p
returns-then-d-p c = search puts

pub returns : goal.returns
returns c = search puts
