use borrow.Author.Rules.{rules}
use Rattle.script.proofs.Lines.{choices}
use Rattle.script.proofs.choice.Goals as goal

pub returns-in_err-marks : goal.returns-in_err-marks
returns-in_err-marks c = rw c.from_residual.ensures (search (rules, choices))

pub returns-in_err-verb : goal.returns-in_err-verb
returns-in_err-verb c = rw c.from_residual-in_err-verb.ensures (search (rules, choices))

pub returns : goal.returns
returns c = search (rules, choices)
