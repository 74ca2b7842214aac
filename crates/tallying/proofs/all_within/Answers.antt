use Rattle.std.proofs.Common.{rules, tests, ◌∙◌, leb}
use Rattle.std.proofs.lemmas.Iterator.{YieldsList-from_slice}
use Rattle.std.proofs.lemmas.Iterator.Search.{all_from_yields_List}
use Rattle.tallying.specs.Tally.{LIMIT}
use Rattle.tallying.proofs.Steps.{within_all}
use Rattle.tallying.proofs.all_within.Goals as goal

pub returns : goal.returns
returns c =
    all_from_yields_List (λ n. leb n LIMIT) _ _ _ c.all.ensures.ran (YieldsList-from_slice _ c.iter.ensures.rest) (λ x b q k. search (rules, tests))
    ∙ within_all _
