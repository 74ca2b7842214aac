use borrow.Author.Rules.{rules}
use borrow.Author.Tests.{tests}
use mathlib.Core.Path.{◌∙◌}
use Rattle.octets.specs.Octets.{same_id}
use Rattle.std.proofs.lemmas.Iterator.Search.{position_from_yields_List}
use Rattle.schemes.proofs.Chunks.{front-yielded, found-place}
use Rattle.schemes.proofs.list.find.Goals as goal

pub returns : goal.returns
returns c =
    c.unwrap_or.ensures
    ∙ found-place _ _ _ c.requires _
    (position_from_yields_List (same_id c.args.id.now) _ _ c.position.result c.position.ensures.ran
    (front-yielded _ c.args.list.now c.requires _ c.chunks_exact.ensures.rest c.chunks_exact.ensures.size) (λ x b q k. search (rules, tests)))
