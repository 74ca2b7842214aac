use Rattle.receiving.proofs.Calls.{read-refused, read-inside, read_short, read-judging, read-on}
use Rattle.receiving.proofs.read.Goals as goal

pub returns-in-Err : goal.returns-in-Err
returns-in-Err c = read-refused _ _ _ _ c.in-Err.ensures _ c.refused.ensures

pub judge_token-judgement-requires : goal.judge_token-judgement-requires
judge_token-judgement-requires c =
    (read-inside _ c.args.transcript.now _ c.in_default.ensures, read_short _ c.args.transcript.now _ c.in_default.ensures)

pub finish_token-requires : goal.finish_token-requires
finish_token-requires c = read-judging _ c.args.transcript.now _ c.in_default.ensures _ c.judge_token-judgement.ensures

pub returns : goal.returns
returns c = read-on _ _ _ c.in_default.ensures _ c.judge_token-judgement.ensures _ c.finish_token.ensures
