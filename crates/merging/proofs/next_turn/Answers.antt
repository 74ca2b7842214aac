use borrow.Author.Rules.{rules}
use Rattle.merging.proofs.Runs.{nexts}
use Rattle.merging.proofs.next_turn.Goals as goal

pub returns-then-irun-gt0 : goal.returns-then-irun-gt0
returns-then-irun-gt0 c = search (rules, nexts)

pub returns-then-arun-eq0 : goal.returns-then-arun-eq0
returns-then-arun-eq0 c = search (rules, nexts)

pub returns : goal.returns
returns c = search (rules, nexts)
