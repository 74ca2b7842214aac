use Rattle.std.proofs.Common.{rules}
use Rattle.text_lines.proofs.Lines.{last-line, line-behind}
use Rattle.text_lines.proofs.split_line.Goals as goal

pub returns-then-end-text : goal.returns-then-end-text
returns-then-end-text c = last-line _ _ (search rules) (search rules) (search rules)

pub returns : goal.returns
returns c = line-behind _ _ (search rules) (search rules)
