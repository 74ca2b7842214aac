use borrow.Author.Rules.{rules}
use Rattle.merging.proofs.Cuts.{files}
use Rattle.merging.proofs.cut_file.Goals as goal

pub returns-then-file-gt65535 : goal.returns-then-file-gt65535
returns-then-file-gt65535 c = search (rules, files)

pub returns : goal.returns
returns c = search (rules, files)
