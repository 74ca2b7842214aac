use Rattle.receiving.proofs.Takes.{takes}
use borrow.Author.Rules.{rules}
use Rattle.receiving.proofs.taken.taken_record.Goals as goal

pub common_set-requires : goal.common_set-requires
common_set-requires c = (search rules, search rules)

pub returns-then-token-eq-FIRST : goal.returns-then-token-eq-FIRST
returns-then-token-eq-FIRST c = search takes

pub kept_places-kept-requires : goal.kept_places-kept-requires
kept_places-kept-requires c = (search rules, search rules)

pub full_set-requires : goal.full_set-requires
full_set-requires c = search takes

pub returns-then-token-eq-ANSWER : goal.returns-then-token-eq-ANSWER
returns-then-token-eq-ANSWER c = search takes

pub returns : goal.returns
returns c = search takes
