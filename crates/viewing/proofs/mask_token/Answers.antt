use Rattle.std.proofs.Common.{rules}
use Rattle.viewing.proofs.Coverages.{masked-is}
use Rattle.viewing.proofs.mask_token.Goals as goal

pub returns : goal.returns
returns c =
    masked-is _ c.requires.0 _ _ c.requires.1 (c.fill.ensures.after (λ y h. search (rules, h))) c.cover.result _ c.cover.ensures
