use Rattle.std.proofs.Common.{rules}
use Rattle.text_lines.proofs.Lines.{no-line}
use Rattle.text_lines.proofs.first_line.Goals as goal

pub returns-in-None : goal.returns-in-None
returns-in-None c = no-line _ (search rules)
