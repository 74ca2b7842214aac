use Prim.Native.Nat.{ℕ}
use mathlib.Core.Path.{refl, ◌∙◌}
use mathlib.Core.Bool.{not, ◌||◌}
use native.Mathlib.Nat.{div-one}
use lib.Dec.{ltb}
use borrow.Author.Rules.{rules}
use borrow.Author.Tests.{tests}
use Rattle.std.proofs.lemmas.Iterator.{YieldsList-from_slice}
use Rattle.std.proofs.lemmas.Iterator.Consumers.{YieldsList-from_enumerate}
use Rattle.std.proofs.lemmas.Iterator.Search.{all_from_yields_List}
use Rattle.schemes.specs.Lists.{bit}
use Rattle.schemes.proofs.Limits.{kept-all}
use Rattle.schemes.proofs.reply.kept_within.Goals as goal

pub returns : goal.returns
returns c =
    all_from_yields_List (λ (p : ℕ × ℕ). not (bit c.args.common p.0) || ltb p.1 c.args.n) _ _ c.all.result c.all.ensures.ran
    (YieldsList-from_enumerate (YieldsList-from_slice c.args.kept cc) cc)
    (λ x b q k. search (rules, tests))
    ∙ kept-all c.args.n 0 c.args.common c.args.kept
    ∙ rw div-one refl
