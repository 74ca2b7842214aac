use Rattle.lines.proofs.Contents.{contents}
use Rattle.lines.proofs.content.nego_line.Goals as goal

pub returns-then-index-count : goal.returns-then-index-count
returns-then-index-count c = search contents

pub returns-then-k-array : goal.returns-then-k-array
returns-then-k-array c = search contents

pub returns : goal.returns
returns c = search contents
