use Rattle.std.proofs.Common.{rules, tests, ◌∙◌}
use Rattle.std.proofs.lemmas.Iterator.Search.{all_from_yields_List}
use Rattle.message.specs.Show.{ids_at, ids_of}
use Rattle.schemes.specs.Lists.{mem}
use Rattle.offers.proofs.Entering.{whole-yielded, not-one, all_in-all}
use Rattle.offers.proofs.one_beyond.Goals as goal

pub returns : goal.returns
returns c =
    not-one _ _ _
    (all_from_yields_List (λ id. mem id (ids_at c.args.n c.args.ids.now)) _ _ c.all-all.result c.all-all.ensures.ran
    (whole-yielded c.args.list.now _ c.chunks_exact.ensures.rest c.chunks_exact.ensures.size) (λ x b q k. search (rules, tests))
    ∙ all_in-all (ids_of c.args.list.now) (ids_at c.args.n c.args.ids.now)) c.from.ensures
