use Rattle.lines.proofs.Contents.{contents}
use Rattle.lines.proofs.content.verify_line.Goals as goal

pub returns-in-0 : goal.returns-in-0
returns-in-0 c = search contents

pub returns-in-1 : goal.returns-in-1
returns-in-1 c = search contents

pub returns-in_default : goal.returns-in_default
returns-in_default c = search contents
