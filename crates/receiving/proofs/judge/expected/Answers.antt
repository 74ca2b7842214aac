use Rattle.receiving.proofs.Judging.{tokens}
use Rattle.receiving.proofs.judge.expected.Goals as goal

pub returns-then-token-eq-FIRST : goal.returns-then-token-eq-FIRST
returns-then-token-eq-FIRST c = search tokens

pub returns : goal.returns
returns c = search tokens
