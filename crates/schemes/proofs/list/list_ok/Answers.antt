use Rattle.schemes.proofs.Ids.{list-refused, list-judged}
use Rattle.schemes.proofs.list.list_ok.Goals as goal

pub returns-then-own-ne0 : goal.returns-then-own-ne0
returns-then-own-ne0 c = list-refused _ c.then-own-ne0.either

pub returns : goal.returns
returns c = list-judged _ c.if-own-ne0.false c.if-count-lt1.false c.if-count-gt-MOST.false _ c.distinct_ids.ensures
