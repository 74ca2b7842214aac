use Rattle.receiving.proofs.Judging.{tokens}
use Rattle.receiving.proofs.judge.judge_token.Goals as goal

pub returns-then-t-lt-COMMON_HEADER : goal.returns-then-t-lt-COMMON_HEADER
returns-then-t-lt-COMMON_HEADER c = search tokens

pub returns : goal.returns
returns c = search tokens
